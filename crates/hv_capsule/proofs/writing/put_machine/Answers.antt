use Rattle.std.proofs.Common.{◌≡◌, ℕ, ◌++◌, List, ap, ◌∙◌, codes, decimal}
use Rattle.hv_word.specs.Storage.{page_count}
use Rattle.hv_capsule.specs.Text.{machine_text, pages_text, words_digits}
use Rattle.hv_capsule.proofs.Written.{and_then}
use Rattle.hv_capsule.proofs.writing.put_machine.Goals as goal

pub returns : goal.returns
unfolding machine_text
returns c =
    let old : List ℕ = c.args.out.now.items in
    let pages : ℕ = page_count c.args.store.now in
    let number : c.put_decimal.new.out.items ≡ c.put.new.out.items ++ decimal pages =
    c.in_ok-put_decimal.ensures
    ∙ ap (λ (n : ℕ). c.put.new.out.items ++ decimal n) (c.from.ensures ∙ c.pages.ensures.count) in
    let t1 : List ℕ = codes "machine 1\npages " in
    let t2 : List ℕ = t1 ++ decimal pages in
    let t3 : List ℕ = t2 ++ codes "\nregs " in
    let t4 : List ℕ = t3 ++ words_digits c.args.regs.now in
    let t5 : List ℕ = t4 ++ codes "\n" in
    let t6 : List ℕ = t5 ++ pages_text c.args.store.now pages in
    let p2 = and_then old t1 c.put.new.out.items c.put_decimal.new.out.items (decimal pages) c.in_ok-put.ensures number in
    let p3 = and_then old t2 c.put_decimal.new.out.items c.put-2.new.out.items (codes "\nregs ") p2 c.in_ok-put-2.ensures in
    let p4 = and_then old t3 c.put-2.new.out.items c.put_words.new.out.items (words_digits c.args.regs.now)
    p3 c.in_ok-put_words.ensures in
    let p5 = and_then old t4 c.put_words.new.out.items c.put-3.new.out.items (codes "\n") p4 c.in_ok-put-3.ensures in
    let p6 = and_then old t5 c.put-3.new.out.items c.put_pages.new.out.items (pages_text c.args.store.now pages)
    p5 c.in_ok-put_pages.ensures in
    and_then old t6 c.put_pages.new.out.items c.put-4.new.out.items (codes "end\n") p6 c.in_ok-put-4.ensures
