use Rattle.hv_word.specs.Storage.{page_count}
use Rattle.hv_store.specs.Access.{identity}
use Rattle.hv_map.specs.Chain.{pin_of}
use Rattle.hv_map.proofs.Words.{machines_chained}
use Rattle.hv_map.proofs.laws.machines_are_on_their_path.Goals as goal

pub returns : goal.returns
unfolding pin_of
returns c = λ S path items e. machines_chained S (identity (page_count S)) 0 path items e
