-- What was kept elsewhere is kept still.
use Rattle.std.proofs.Common.{refl}
use Rattle.hv_map.proofs.Caching.{cache_more}
use Rattle.hv_map.proofs.tables.TableCache.keep.Goals as goal

pub returns : goal.returns
returns c = λ S items cache page.
    cache_more S items c.args.self.now _ c.place.result c.args.level (record { number = c.args.number; host = c.args.host }) c.place.ensures.machine refl cache page
