-- The text of a term and the end of its line are those of its tokens, kind by kind.
use Rattle.std.specs.Prelude.{◌≡◌, ℕ, ◌+◌, ◌*◌, ◌^◌}
use mathlib.Core.List.{List, ◌++◌, append_assoc}
use Rattle.writing.specs.Bytes.{bytes, decimal, bits}
use Rattle.needs.specs.Needed.{arity}
use Rattle.smttext.specs.Fill.{filled}
use Rattle.smttext.specs.Names.{rounding_text}
use Rattle.smttext.specs.Terms.{float_text, term_text}
use Rattle.smtgrammar.specs.Tokens.{opening_text, mark_text}
use Rattle.smtcomplete.specs.Facts.{Sum, add, sub, mul, div}

module _ (a b c s : ℕ) (x y z : List ℕ) where
  -- a term of kind k, to the end of its line
  abbrev pub ended : ℕ → List ℕ
  ended k = term_text k a b c x y z ++ bytes ")\n"

  pub text-6 : ended 6 ≡ opening_text 6 s ++ (bits c (b * 2 ^ 64 + a) ++ bytes ")\n")
  unfolding term_text float_text filled bytes opening_text mark_text arity
  text-6 = simp append_assoc

  pub text-7 : ended 7 ≡ opening_text 7 s ++ ((x ++ mark_text 7 0) ++ (y ++ mark_text 7 1))
  unfolding term_text float_text filled bytes opening_text mark_text arity
  text-7 = simp append_assoc

  pub text-8 : ended 8 ≡ opening_text 8 s ++ ((x ++ mark_text 8 0) ++ (y ++ mark_text 8 1))
  unfolding term_text float_text filled bytes opening_text mark_text arity
  text-8 = simp append_assoc

  pub text-9 : ended 9 ≡ opening_text 9 s ++ ((x ++ mark_text 9 0) ++ (y ++ mark_text 9 1))
  unfolding term_text float_text filled bytes opening_text mark_text arity
  text-9 = simp append_assoc

  pub text-10 : ended 10 ≡ opening_text 10 s ++ ((x ++ mark_text 10 0) ++ (y ++ mark_text 10 1))
  unfolding term_text float_text filled bytes opening_text mark_text arity
  text-10 = simp append_assoc

  pub text-11 : ended 11 ≡ opening_text 11 s ++ ((x ++ mark_text 11 0) ++ (y ++ mark_text 11 1))
  unfolding term_text float_text filled bytes opening_text mark_text arity
  text-11 = simp append_assoc

  pub text-15 : ended 15 ≡ opening_text 15 s ++ ((x ++ mark_text 15 0) ++ (y ++ mark_text 15 1))
  unfolding term_text float_text filled bytes opening_text mark_text arity
  text-15 = simp append_assoc

  pub text-20 : ended 20 ≡ opening_text 20 s ++ ((x ++ mark_text 20 0) ++ (y ++ mark_text 20 1))
  unfolding term_text float_text filled bytes opening_text mark_text arity
  text-20 = simp append_assoc

  pub text-21 : ended 21 ≡ opening_text 21 s ++ ((x ++ mark_text 21 0) ++ (y ++ mark_text 21 1))
  unfolding term_text float_text filled bytes opening_text mark_text arity
  text-21 = simp append_assoc

  pub text-12 : ended 12 ≡ opening_text 12 s ++ (x ++ mark_text 12 0)
  unfolding term_text float_text filled bytes opening_text mark_text arity
  text-12 = simp append_assoc

  pub text-22 : ended 22 ≡ opening_text 22 s ++ (x ++ mark_text 22 0)
  unfolding term_text float_text filled bytes opening_text mark_text arity
  text-22 = simp append_assoc

  pub text-13 : ended 13 ≡ opening_text 9 s ++ (bytes "#b1 " ++ ((x ++ mark_text 13 0) ++ ((y ++ mark_text 13 1) ++ (z ++ mark_text 13 2))))
  unfolding term_text float_text filled bytes opening_text mark_text arity
  text-13 = simp append_assoc

  pub text-14 : ended 14 ≡ opening_text 14 s ++ ((decimal b ++ (bytes " " ++ (decimal c ++ bytes ") "))) ++ (x ++ mark_text 14 0))
  unfolding term_text float_text filled bytes opening_text mark_text arity
  text-14 = simp append_assoc

  pub text-sum : (k : ℕ) → Sum k → ended k ≡ opening_text k s ++ ((rounding_text c ++ bytes " ") ++ ((x ++ mark_text k 0) ++ (y ++ mark_text k 1)))
  unfolding term_text float_text filled bytes opening_text mark_text arity
  text-sum k add = simp append_assoc
  text-sum k sub = simp append_assoc
  text-sum k mul = simp append_assoc
  text-sum k div = simp append_assoc

  pub text-23 : ended 23 ≡ opening_text 23 s ++ ((rounding_text b ++ bytes " ") ++ (x ++ mark_text 23 0))
  unfolding term_text float_text filled bytes opening_text mark_text arity
  text-23 = simp append_assoc

  pub text-24 : ended 24 ≡ opening_text 24 s ++ ((rounding_text b ++ bytes " ") ++ (x ++ mark_text 24 0))
  unfolding term_text float_text filled bytes opening_text mark_text arity
  text-24 = simp append_assoc

  pub text-25 : ended 25 ≡ opening_text 25 c ++ (x ++ mark_text 25 0)
  unfolding term_text float_text filled bytes opening_text mark_text arity
  text-25 = simp append_assoc

  pub text-27 : ended 27 ≡ opening_text 27 c ++ ((rounding_text b ++ bytes " ") ++ (x ++ mark_text 27 0))
  unfolding term_text float_text filled bytes opening_text mark_text arity
  text-27 = simp append_assoc

  pub text-28 : ended 28 ≡ opening_text 25 c ++ ((rounding_text b ++ bytes " ") ++ (x ++ mark_text 28 0))
  unfolding term_text float_text filled bytes opening_text mark_text arity
  text-28 = simp append_assoc

  pub text-29 : ended 29 ≡ opening_text 25 c ++ ((rounding_text b ++ bytes " ") ++ (x ++ mark_text 28 0))
  unfolding term_text float_text filled bytes opening_text mark_text arity
  text-29 = simp append_assoc
