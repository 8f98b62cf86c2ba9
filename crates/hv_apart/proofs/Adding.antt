-- One page more, and many.
use Rattle.std.proofs.Common.{◌≡◌, ℕ, Bool, true, false, not, ◌&&◌, ◌||◌, ◌==◌, List, [], ◌∷◌, ◌++◌, ap, ◌∙◌, sym, subst, append_assoc}
use Rattle.std.proofs.lemmas.List.{append-nil}
use Rattle.hv_map.specs.Apart.{are_distinct}
use Rattle.hv_apart.specs.Marked.{is_marked}
use Rattle.hv_apart.specs.Added.{Tells, Added}
use Rattle.hv_apart.specs.declared.marks.Marks.{Marks}
use Rattle.hv_apart.proofs.Lists.{has-push, distinct-push}

-- one that is in the set
pub added_again : (before after : Marks) (x : ℕ)
    → is_marked before.words x ≡ true
    → ((a : ℕ) → is_marked after.words a ≡ ((a == x) || is_marked before.words a))
    → after.distinct ≡ false
    → Added before after (x ∷ [])
added_again before after x was set told = record {
  tells = λ xs t. record {
    set = record { each = λ a. set a ∙ ap (λ (b : Bool). (a == x) || b) (t.set.each a) ∙ sym (has-push a x xs) };
    apart = told ∙ sym (distinct-push x xs ∙ ap (λ (b : Bool). not b && are_distinct xs) (sym (t.set.each x) ∙ was));
  };
}

-- one that isn't
pub added_new : (before after : Marks) (x : ℕ)
    → is_marked before.words x ≡ false
    → ((a : ℕ) → is_marked after.words a ≡ ((a == x) || is_marked before.words a))
    → after.distinct ≡ before.distinct
    → Added before after (x ∷ [])
added_new before after x was set told = record {
  tells = λ xs t. record {
    set = record { each = λ a. set a ∙ ap (λ (b : Bool). (a == x) || b) (t.set.each a) ∙ sym (has-push a x xs) };
    apart = told ∙ t.apart ∙ sym (distinct-push x xs ∙ ap (λ (b : Bool). not b && are_distinct xs) (sym (t.set.each x) ∙ was));
  };
}

-- none
pub added_none : (m : Marks) → Added m m []
added_none m = record { tells = λ xs t. subst (Tells m) (sym (append-nil xs)) t }

-- some, and then some more
pub added_more : (a b c : Marks) (ys zs ws : List ℕ) → Added a b ys → Added b c zs → ws ≡ ys ++ zs → Added a c ws
added_more a b c ys zs ws p q e = record {
  tells = λ xs t.
      subst (Tells c) (append_assoc xs ys zs ∙ ap (λ (vs : List ℕ). xs ++ vs) (sym e)) (q.tells (xs ++ ys) (p.tells xs t));
}
