-- The choices of each stage: how many there are, which are allowed, and what each leads to.
use Rattle.std.specs.Prelude.{◌≡◌, Bool, true, cond, ℕ, ◌+◌, ◌-◌, leb, ltb}
use Rattle.smtgrammar.specs.State.{Tables, State}
use Rattle.smtgrammar.specs.Allowed.{line_ok, declared_ok, kind_ok, number_ok, digit_ok, width_ok, defined_ok, sort_ok, opening_ok, first_ok, operand_ok, place_ok, ok_at}
use Rattle.smtgrammar.specs.Next.{gap_from, onward, turned, begun, numeral, declared, opened, operand₀, operand₁, word, termed, digit, asserted, next_at}
use Rattle.smtgrammar.specs.Grammar.{size_at}
use Rattle.smtgrammar.specs.declared.Place.{Place}
use Rattle.smtgrammar.specs.declared.Line.{Line}

-- the choice v of a line: of so many, allowed or not, with the state that it leads to
pub record Stage (t : Tables) (p : Place) (l : Line) (v size : ℕ) (ok : Bool) (τ : State) : Type 0 where
  pub size_is : size_at l.stage ≡ size
  pub ok-is : ok_at t p l v ≡ ok
  pub next-is : next_at t p l v ≡ τ

module _ (t : Tables) (p : Place) (l : Line) (v : ℕ) where
  pub at-0 : l.stage ≡ 0 → Stage t p l v 3 (line_ok t p l v)
      (begun t p l v)
  unfolding size_at ok_at next_at
  at-0 e = record { size_is = rw e; ok-is = rw e; next-is = rw e }

  pub at_1 : l.stage ≡ 1 → Stage t p l v 65535 (declared_ok t p l v)
      (onward t p l (record { stage = 2; node = v; kind = 0; sort = 0; a = 0; b = 0; r = 0; left = 0; after = 0 }))
  unfolding size_at ok_at next_at
  at_1 e = record { size_is = rw e; ok-is = rw e; next-is = rw e }

  pub at-2 : l.stage ≡ 2 → Stage t p l v 27 (kind_ok t p l v)
      (onward t p l (record { stage = cond (leb v 3) 4 3; node = l.node; kind = v; sort = 0; a = 0; b = 0; r = 0; left = 0; after = 0 }))
  unfolding size_at ok_at next_at
  at-2 e = record { size_is = rw e; ok-is = rw e; next-is = rw e }

  pub at-3 : l.stage ≡ 3 → Stage t p l v 65535 (number_ok t p l v)
      (onward t p l (record { stage = 5; node = l.node; kind = l.kind; sort = 0; a = v; b = 0; r = 0; left = 0; after = 0 }))
  unfolding size_at ok_at next_at
  at-3 e = record { size_is = rw e; ok-is = rw e; next-is = rw e }

  pub at-4 : l.stage ≡ 4 → Stage t p l v 11 (digit_ok t p l v)
      (numeral t p l v)
  unfolding size_at ok_at next_at
  at-4 e = record { size_is = rw e; ok-is = rw e; next-is = rw e }

  pub at_5 : l.stage ≡ 5 → Stage t p l v 81 (width_ok t p l v)
      (declared t p l v)
  unfolding size_at ok_at next_at
  at_5 e = record { size_is = rw e; ok-is = rw e; next-is = rw e }

  pub at-6 : l.stage ≡ 6 → Stage t p l v 65535 (defined_ok t p l v)
      (onward t p l (record { stage = 7; node = v; kind = 0; sort = 0; a = 0; b = 0; r = 0; left = 0; after = gap_from t (v + 1) }))
  unfolding size_at ok_at next_at
  at-6 e = record { size_is = rw e; ok-is = rw e; next-is = rw e }

  pub at_7 : l.stage ≡ 7 → Stage t p l v 3905 (sort_ok t p l v)
      (onward t p l (record { stage = 8; node = l.node; kind = 0; sort = v; a = 0; b = 0; r = 0; left = 0; after = l.after }))
  unfolding size_at ok_at next_at
  at_7 e = record { size_is = rw e; ok-is = rw e; next-is = rw e }

  pub at_8 : l.stage ≡ 8 → Stage t p l v 28 (opening_ok t p l v)
      (opened t p l v)
  unfolding size_at ok_at next_at
  at_8 e = record { size_is = rw e; ok-is = rw e; next-is = rw e }

  pub at_9 : l.stage ≡ 9 → Stage t p l v 65539 (first_ok t p l v)
      (cond (ltb v 65536) (operand₀ t p l v) (word t p l (v - 65536)))
  unfolding size_at ok_at next_at
  at_9 e = record { size_is = rw e; ok-is = rw e; next-is = rw e }

  pub at-10 : l.stage ≡ 10 → Stage t p l v 65536 (operand_ok t p l 0 v)
      (operand₀ t p l v)
  unfolding size_at ok_at next_at
  at-10 e = record { size_is = rw e; ok-is = rw e; next-is = rw e }

  pub at-11 : l.stage ≡ 11 → Stage t p l v 65536 (operand_ok t p l 1 v)
      (operand₁ t p l v)
  unfolding size_at ok_at next_at
  at-11 e = record { size_is = rw e; ok-is = rw e; next-is = rw e }

  pub at-12 : l.stage ≡ 12 → Stage t p l v 65536 (operand_ok t p l 2 v)
      (termed t p l l.a l.b v)
  unfolding size_at ok_at next_at
  at-12 e = record { size_is = rw e; ok-is = rw e; next-is = rw e }

  pub at-13 : l.stage ≡ 13 → Stage t p l v 80 (place_ok t p l v)
      (onward t p l (turned t p l 10 l.kind 0 0 v))
  unfolding size_at ok_at next_at
  at-13 e = record { size_is = rw e; ok-is = rw e; next-is = rw e }

  pub at-14 : l.stage ≡ 14 → Stage t p l v 2 true
      (digit t p l v)
  unfolding size_at ok_at next_at
  at-14 e = record { size_is = rw e; ok-is = rw e; next-is = rw e }

  pub at-15 : l.stage ≡ 15 → Stage t p l v 1 true
      (asserted t p l)
  unfolding size_at ok_at next_at
  at-15 e = record { size_is = rw e; ok-is = rw e; next-is = rw e }
