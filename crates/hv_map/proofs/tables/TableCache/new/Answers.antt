-- At first nothing is kept.
use Rattle.std.proofs.Common.{◌*◌, refl}
use Rattle.hv_limits.specs.Limits.{depth_limit}
use Rattle.hv_map.proofs.Caching.{cache_new}
use Rattle.hv_map.proofs.tables.TableCache.new.Goals as goal

pub returns : goal.returns
returns c = λ S items. cache_new S items _ (16 * depth_limit) refl
