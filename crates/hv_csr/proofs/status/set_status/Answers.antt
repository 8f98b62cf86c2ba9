use Rattle.std.proofs.Common.{ℕ, sym, ap, ◌∙◌, bit_and}
use Rattle.hv_word.specs.Words.{field_of}
use Rattle.hv_cpu.specs.Masks.{mstatus_mask}
use Rattle.hv_csr.proofs.Merge.{put_inside, put_mpp}
use Rattle.hv_csr.proofs.status.set_status.Goals as goal

pub returns-clause-masked : goal.returns-clause-masked
returns-clause-masked g c =
    ap (λ (x : ℕ). bit_and x mstatus_mask) c.field_set.ensures
    ∙ put_inside c.args.status g.row.LO g.row.LEN c.args.value mstatus_mask c.requires.fits c.ranges.status.fits c.requires.masked c.requires.inside
    ∙ sym c.field_set.ensures

pub returns-clause-mpp : goal.returns-clause-mpp
returns-clause-mpp g c =
    λ apart. ap (λ (x : ℕ). field_of x 11 2) c.field_set.ensures
    ∙ put_mpp c.args.status g.row.LO g.row.LEN c.args.value c.requires.fits c.ranges.status.fits apart
