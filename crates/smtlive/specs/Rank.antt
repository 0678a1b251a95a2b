-- How far the end of a text is: a number that some allowed choice makes smaller.
use Rattle.std.specs.Prelude.{◌≡◌, Bool, cond, ◌||◌, ℕ, ◌+◌, ◌-◌, ◌*◌, ◌/◌, ◌%◌, ◌^◌, ◌≤◌, ◌<◌, leb, eqb}
use Rattle.std.proofs.Math.Path.{refl}
use Rattle.std.proofs.Common.{◌∙◌}
use Rattle.std.proofs.Math.Bool.{true, false}
use native.Mathlib.Omega.{arith}
use Rattle.needs.specs.Needed.{arity}
use Rattle.smtgrammar.specs.State.{Tables, State}
use Rattle.smtgrammar.specs.Allowed.{ok_at}
use Rattle.smtgrammar.specs.Next.{onward, turned, termed, defined, grown, operand₀, operand₁, word, digit, declared, next_at}
use Rattle.smtgrammar.specs.Grammar.{size_at}
use Rattle.smtgrammar.specs.declared.Place.{Place}
use Rattle.smtgrammar.specs.declared.Line.{Line}
use Rattle.smtlive.specs.At.{Stage}

-- the numbers that can still be defined, and the assertions
unfoldable pub room : ℕ → ℕ → ℕ
room gap due = 20000 * ((65535 - gap) + (65535 - due))

-- the stages of a definition, the last one first
unfoldable pub ahead : ℕ → ℕ → ℕ
ahead stage left =
    cond (eqb stage 7) 9000
    (cond (eqb stage 8) 8000
    (cond (eqb stage 9) 7000
    (cond (eqb stage 13) 6500
    (cond (eqb stage 10) 6000
    (cond (eqb stage 11) 5500
    (cond (eqb stage 12) 5400 left))))))

-- a definition and an assertion take some of the room, and a declaration is further away than all of them
unfoldable pub rank_at : Place → Line → ℕ
rank_at p l =
    cond (eqb l.stage 0) (room p.gap p.due + 5000)
    (cond (eqb l.stage 6 || eqb l.stage 15) (room p.gap p.due + 4000)
    (cond (leb l.stage 5) (10000000000 + 1000 * (6 - l.stage) + (1 - l.left)) (room l.after p.due + (10000 + ahead l.stage l.left))))

abbrev pub rank : State → ℕ
rank σ = rank_at σ.place σ.line

-- an allowed choice that comes nearer to the end
pub record Pick (t : Tables) (p : Place) (l : Line) : Type 0 where
  pub value : ℕ
  pub below : value < size_at l.stage
  pub allowed : ok_at t p l value ≡ true
  pub nearer : rank (next_at t p l value) < rank (record { tables = t; place = p; line = l })

module _ (t : Tables) (p : Place) (l : Line) where
  pub pick : {v size n : ℕ} {ok : Bool} {τ : State} → Stage t p l v size ok τ → rank_at p l ≡ n → v < size → ok ≡ true → rank τ < n → Pick t p l
  pick {v} s r h e k = record { value = v; below = rw s.size_is h; allowed = s.ok-is ∙ e; nearer = rw (s.next-is, r) k }

  pub rank-0 : l.stage ≡ 0 → rank_at p l ≡ room p.gap p.due + 5000
  unfolding rank_at ahead
  rank-0 e = rw e

  pub rank-1 : l.stage ≡ 1 → rank_at p l ≡ 10000005000 + (1 - l.left)
  unfolding rank_at ahead
  rank-1 e = rw e

  pub rank-2 : l.stage ≡ 2 → rank_at p l ≡ 10000004000 + (1 - l.left)
  unfolding rank_at ahead
  rank-2 e = rw e

  pub rank-3 : l.stage ≡ 3 → rank_at p l ≡ 10000003000 + (1 - l.left)
  unfolding rank_at ahead
  rank-3 e = rw e

  pub rank-4 : l.stage ≡ 4 → rank_at p l ≡ 10000002000 + (1 - l.left)
  unfolding rank_at ahead
  rank-4 e = rw e

  pub rank-5 : l.stage ≡ 5 → rank_at p l ≡ 10000001000 + (1 - l.left)
  unfolding rank_at ahead
  rank-5 e = rw e

  pub rank-6 : l.stage ≡ 6 → rank_at p l ≡ room p.gap p.due + 4000
  unfolding rank_at ahead
  rank-6 e = rw e

  pub rank-7 : l.stage ≡ 7 → rank_at p l ≡ room l.after p.due + 19000
  unfolding rank_at ahead
  rank-7 e = rw e

  pub rank-8 : l.stage ≡ 8 → rank_at p l ≡ room l.after p.due + 18000
  unfolding rank_at ahead
  rank-8 e = rw e

  pub rank-9 : l.stage ≡ 9 → rank_at p l ≡ room l.after p.due + 17000
  unfolding rank_at ahead
  rank-9 e = rw e

  pub rank-10 : l.stage ≡ 10 → rank_at p l ≡ room l.after p.due + 16000
  unfolding rank_at ahead
  rank-10 e = rw e

  pub rank-11 : l.stage ≡ 11 → rank_at p l ≡ room l.after p.due + 15500
  unfolding rank_at ahead
  rank-11 e = rw e

  pub rank-12 : l.stage ≡ 12 → rank_at p l ≡ room l.after p.due + 15400
  unfolding rank_at ahead
  rank-12 e = rw e

  pub rank-13 : l.stage ≡ 13 → rank_at p l ≡ room l.after p.due + 16500
  unfolding rank_at ahead
  rank-13 e = rw e

  pub rank-14 : l.stage ≡ 14 → rank_at p l ≡ room l.after p.due + (10000 + l.left)
  unfolding rank_at ahead
  rank-14 e = rw e

  pub rank-15 : l.stage ≡ 15 → rank_at p l ≡ room p.gap p.due + 4000
  unfolding rank_at ahead
  rank-15 e = rw e

  -- where an operand, a word or a digit leads
  termed-rank : (a b c : ℕ) → rank (termed t p l a b c) ≡ room l.after p.due + 5000
  unfolding termed defined rank_at
  termed-rank a b c = refl

  pub third-rank : (v : ℕ) → rank (termed t p l l.a l.b v) < room l.after p.due + 15400
  third-rank v = let e = termed-rank l.a l.b v in omega arith

  pub first-rank : (i : ℕ) → rank (operand₀ t p l i) < room l.after p.due + 16000
  unfolding operand₀ rank_at ahead
  first-rank i = go (leb 2 (arity l.kind))
    where
      go : (x : Bool) → rank (cond x (onward t p l (turned t p l 11 l.kind i 0 l.r)) (termed t p l i 0 0)) < room l.after p.due + 16000
      go true = omega arith
      go false = let e = termed-rank i 0 0 in omega arith

  pub second-rank : (i : ℕ) → rank (operand₁ t p l i) < room l.after p.due + 15500
  unfolding operand₁ rank_at ahead
  second-rank i = go (eqb l.kind 13)
    where
      go : (x : Bool) → rank (cond x (onward t p l (turned t p l 12 l.kind l.a i l.r)) (termed t p l l.a i 0)) < room l.after p.due + 15500
      go true = omega arith
      go false = let e = termed-rank l.a i 0 in omega arith

  pub word-rank : (v : ℕ) → rank (word t p l v) < room l.after p.due + 17000
  unfolding word rank_at ahead
  word-rank v = go (eqb v 0)
    where
      go : (x : Bool)
          → rank (cond x (onward t p l (turned t p l 10 13 0 0 0)) (onward t p l (turned t p l 10 (cond (eqb l.kind 25) 28 l.kind) 0 0 (v - 1))))
          < room l.after p.due + 17000
      go true = omega arith
      go false = omega arith

  pub digit-rank : (v : ℕ) → 1 ≤ l.left → rank (digit t p l v) < room l.after p.due + (10000 + l.left)
  unfolding digit defined rank_at ahead
  digit-rank v h = go (eqb l.left 1)
    where
      go : (x : Bool)
          → rank (cond x
          (defined t p l 6 (grown t p l v % 2 ^ 64) (grown t p l v / 2 ^ 64) l.sort)
          (onward t p l (record { stage = 14; node = l.node; kind = 6; sort = l.sort; a = grown t p l v % 2 ^ 64; b = grown t p l v / 2 ^ 64; r = 0; left = l.left - 1; after = l.after })))
          < room l.after p.due + (10000 + l.left)
      go true = omega arith
      go false = omega arith

  -- a declaration leads to some state between lines
  pub declared-rank : (v : ℕ) → rank (declared t p l v) < 10000000000
  unfolding declared rank_at room
  declared-rank v = omega arith
