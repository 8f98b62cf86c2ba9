-- One number more in a set, and many.
use Rattle.std.proofs.Common.{◌≡◌, ℕ, Bool, ◌||◌, ◌==◌, List, [], ◌∷◌, ◌++◌, replicate, ap, ◌∙◌, sym}
use Rattle.std.proofs.Math.Bool.{or-false}
use Rattle.hv_word.specs.Words.{has}
use Rattle.hv_apart.specs.Marked.{is_marked, SetOf, Joined}
use Rattle.hv_apart.proofs.BitSets.{marks_none}
use Rattle.hv_apart.proofs.Lists.{has-append, or_assoc, same_or}

pub joined_none : (words : List ℕ) → Joined words words []
joined_none words = record { each = λ a. sym (or-false (is_marked words a)) }

pub joined_one : (before after : List ℕ) (x : ℕ) → ((a : ℕ) → is_marked after a ≡ ((a == x) || is_marked before a)) → Joined before after (x ∷ [])
joined_one before after x set = record {
  each = λ a. set a ∙ sym (same_or (is_marked before a) (a == x));
}

pub joined_more : (a b c ys zs ws : List ℕ) → Joined a b ys → Joined b c zs → ws ≡ ys ++ zs → Joined a c ws
joined_more a b c ys zs ws p q e = record {
  each = λ k.
      q.each k
      ∙ ap (λ (t : Bool). t || has k zs) (p.each k)
      ∙ or_assoc (is_marked a k) (has k ys) (has k zs)
      ∙ ap (λ (t : Bool). is_marked a k || t) (sym (has-append k ys zs) ∙ ap (has k) (sym e));
}

-- what was put into an empty set is all that it has
pub set_of_joined : (n : ℕ) (after ys : List ℕ) → Joined (replicate n 0) after ys → SetOf after ys
set_of_joined n after ys p = record {
  each = λ a. p.each a ∙ ap (λ (b : Bool). b || has a ys) ((marks_none n).each a);
}
