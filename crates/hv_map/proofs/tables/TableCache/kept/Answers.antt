-- What is kept at the place of a page is that page, where its number is that.
use Rattle.hv_map.proofs.Caching.{cache_gives}
use Rattle.hv_map.proofs.tables.TableCache.kept.Goals as goal

pub returns-in-Some : goal.returns-in-Some
returns-in-Some c = λ S items cache.
    cache_gives S items c.args.self.now c.place.result c.args.level c.args.number c.in-Some.page cache c.in-Some.is c.place.ensures.machine c.if-page-number.true
