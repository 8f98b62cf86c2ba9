use Rattle.std.proofs.Common.{ℕ, List, Ok, Result, ◌∙◌, ap, refl, subst, sym}
use Rattle.std.proofs.lemmas.Result.{err_from_is_err_and}
use Rattle.hv_load.specs.declared.ends.BuildKind.{BuildKind}
use Rattle.hv_load.specs.Answers.{Refuses}
use Rattle.hv_load.specs.Building.{Building, Known}
use Rattle.hv_load.specs.Directives.{words_of}
use Rattle.hv_load.specs.Pages.{with_values}
use Rattle.hv_load.proofs.Doing.{words_done, words_refused}
use Rattle.hv_load.proofs.builder.Builder.words.Goals as goal

pub returns-in_err-places : goal.returns-in_err-places
returns-in_err-places c =
    let p = err_from_is_err_and c.from_residual-in_err-places.result c.from_residual-in_err-places.ensures.1 in
    let b : Building = record {
      storage = c.self.inside.store;
      marks = c.self.inside.marks.items;
      names = c.self.inside.names.items;
      machines = c.self.inside.machines;
      towered = c.self.inside.towered;
      harts = c.self.inside.harts;
      watches = c.self.inside.watches.items;
      dumps = c.self.inside.dumps.items;
    } in
    let k : Known = record { name = c.machine.inside.name; path = c.machine.inside.path; pages = c.machine.inside.pages } in
    rw (p.1, p.2)
    (subst
    (λ (b : Building). Refuses c.in_err-places.field-0.0 (words_of b c.args.name.now c.args.at c.args.values.now))
    c.self.view_is
    (words_refused b c.args.name.now c.as_slice.result.now k c.pin.result c.as_slice-2.result.now
    (ap (λ (k : Known). let r : Result Known BuildKind = Ok k in r) c.machine.view_is ∙ c.in_ok-machine.ensures)
    c.as_slice.ensures.value c.pin.ensures c.as_slice-2.ensures.value
    c.args.at _ c.args.values.now c.in_err-places.field-0.0 refl c.in_err-places.ensures.places))

pub returns : goal.returns
returns c =
    let b : Building = record {
      storage = c.self.inside.store;
      marks = c.self.inside.marks.items;
      names = c.self.inside.names.items;
      machines = c.self.inside.machines;
      towered = c.self.inside.towered;
      harts = c.self.inside.harts;
      watches = c.self.inside.watches.items;
      dumps = c.self.inside.dumps.items;
    } in
    let k : Known = record { name = c.machine.inside.name; path = c.machine.inside.path; pages = c.machine.inside.pages } in
    ap (λ (b : Building). words_of b c.args.name.now c.args.at c.args.values.now) (sym c.self.view_is)
    ∙ words_done b c.args.name.now c.as_slice.result.now k c.pin.result c.as_slice-2.result.now
    (ap (λ (k : Known). let r : Result Known BuildKind = Ok k in r) c.machine.view_is ∙ c.in_ok-machine.ensures)
    c.as_slice.ensures.value c.pin.ensures c.as_slice-2.ensures.value
    c.args.at _ c.args.values.now c.in_ok-places.places.items c.put_values.new.store refl c.in_ok-places.ensures.places
    (c.put_values.ensures.values ∙ ap (λ (ps : List ℕ). with_values c.self.inside.store ps c.args.values.now) c.as_slice-3.ensures.value)
