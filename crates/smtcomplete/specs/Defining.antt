-- A line that defines: its tokens, stage by stage.
use Rattle.std.specs.Prelude.{◌≡◌, true, false, cond, ◌||◌, List, ◌++◌, leb, eqb, get_or}
use Prim.Native.Nat.{ℕ, zero, suc, ◌+◌, ◌-◌, ◌≤◌, ◌<◌}
use Rattle.std.proofs.Common.{arith}
use borrow.Author.Tests.{lt-ltb}
use Rattle.writing.specs.Bytes.{bytes, decimal}
use Rattle.needs.specs.Needed.{arity}
use Rattle.smttext.specs.Names.{name_from, rounding_text}
use Rattle.smtgrammar.specs.declared.Place.{Place}
use Rattle.smtgrammar.specs.declared.Line.{Line}
use Rattle.smtgrammar.specs.State.{limit, Tables, State}
use Rattle.smtgrammar.specs.Allowed.{opening_ok, sort_taken, word_ok, first_ok, place_ok, ok_at}
use Rattle.smtgrammar.specs.Tokens.{opening_text, mark_text, word_text, node_name, text_at}
use Rattle.smtgrammar.specs.Next.{defined, termed, operand₀, operand₁, opened, next_at}
use Rattle.smtgrammar.specs.Next as next
use Rattle.smtgrammar.specs.Grammar.{size_at}
use Rattle.smtcomplete.specs.Lines.{Reach, token}

-- the same text, and the same state
pub says : {σ ρ : State} {x y : List ℕ} → y ≡ x → Reach σ x ρ → Reach σ y ρ
says e r = rw e r

pub ends : {σ ρ ρ' : State} {x : List ℕ} → ρ ≡ ρ' → Reach σ x ρ → Reach σ x ρ'
ends e r = rw e at r

-- node q, of sort s and named x, is there and below i
pub record Op (t : Tables) (i q s : ℕ) (x : List ℕ) : Type 0 where
  pub earlier : q < i
  pub low : q < 65536
  pub there : eqb (get_or t.kinds q 0) 0 ≡ false
  pub sort : get_or t.sorts q 0 ≡ s
  pub name : name_from q (get_or t.kinds q 0) (get_or t.field_a q 0) ≡ x
  pub under : get_or t.lowest s limit < i

-- a line of a definition at its stage, as far as it is known
abbrev pub defining : ℕ → ℕ → ℕ → ℕ → ℕ → ℕ → ℕ → ℕ → Line
defining i s after stage k a b r = record { stage = stage; node = i; kind = k; sort = s; a = a; b = b; r = r; left = 0; after = after }

module _ (t : Tables) (p : Place) (i s after : ℕ) where
  abbrev pub at_line : ℕ → ℕ → ℕ → ℕ → ℕ → Line
  at_line = defining i s after

  abbrev pub at : ℕ → ℕ → ℕ → ℕ → ℕ → State
  at stage k a b r = record { tables = t; place = p; line = at_line stage k a b r }

  -- the text of a term leads to the end of its line
  abbrev pub Term : List ℕ → ℕ → ℕ → ℕ → ℕ → Type 0
  Term x k a b c = Reach (at 8 0 0 0 0) x (defined t p (at_line 8 0 0 0 0) k a b c)

  pub opens : (k : ℕ) (ρ : State) → k < 28 → opening_ok t p (at_line 8 0 0 0 0) k ≡ true → opened t p (at_line 8 0 0 0 0) k ≡ ρ → Reach (at 8 0 0 0 0) (opening_text k s) ρ
  unfolding size_at ok_at text_at next_at
  opens k ρ h e q = ends q (token t p (at_line 8 0 0 0 0) k h e)

  module _ (q sq : ℕ) (x : List ℕ) (o : Op t i q sq x) where
    -- a first operand, with more behind it or alone
    pub first₁₀ : (k r : ℕ) → leb 2 (arity k) ≡ true → sort_taken t p (at_line 10 k 0 0 r) 0 sq ≡ true → Reach (at 10 k 0 0 r) (x ++ mark_text k 0) (at 11 k q 0 r)
    unfolding size_at ok_at text_at next_at node_name operand₀
    first₁₀ k r e g =
        let u = token t p (at_line 10 k 0 0 r) q o.low (rw (lt-ltb q i o.earlier, o.there, o.sort) g) in
        rw (o.name, e) at u

    pub only₁₀ : (k r : ℕ) → leb 2 (arity k) ≡ false → sort_taken t p (at_line 10 k 0 0 r) 0 sq ≡ true → Reach (at 10 k 0 0 r) (x ++ mark_text k 0) (termed t p (at_line 10 k 0 0 r) q 0 0)
    unfolding size_at ok_at text_at next_at node_name operand₀
    only₁₀ k r e g =
        let u = token t p (at_line 10 k 0 0 r) q o.low (rw (lt-ltb q i o.earlier, o.there, o.sort) g) in
        rw (o.name, e) at u

    pub first₉ : (k : ℕ) → (eqb k 9 || eqb k 25) ≡ true → leb 2 (arity k) ≡ true → sort_taken t p (at_line 9 k 0 0 0) 0 sq ≡ true → Reach (at 9 k 0 0 0) (x ++ mark_text k 0) (at 11 k q 0 0)
    unfolding size_at ok_at first_ok text_at next_at node_name operand₀
    first₉ k f e g =
        let l = lt-ltb q 65536 o.low in
        let h = o.low in
        let u = token t p (at_line 9 k 0 0 0) q (omega arith) (rw (l, f, lt-ltb q i o.earlier, o.there, o.sort) g) in
        rw (l, o.name, e) at u

    pub only₉ : (k : ℕ) → (eqb k 9 || eqb k 25) ≡ true → leb 2 (arity k) ≡ false → sort_taken t p (at_line 9 k 0 0 0) 0 sq ≡ true
        → Reach (at 9 k 0 0 0) (x ++ mark_text k 0) (termed t p (at_line 9 k 0 0 0) q 0 0)
    unfolding size_at ok_at first_ok text_at next_at node_name operand₀
    only₉ k f e g =
        let l = lt-ltb q 65536 o.low in
        let h = o.low in
        let u = token t p (at_line 9 k 0 0 0) q (omega arith) (rw (l, f, lt-ltb q i o.earlier, o.there, o.sort) g) in
        rw (l, o.name, e) at u

    -- a second one, and a third one
    pub second : (k a r : ℕ) → eqb k 13 ≡ false → sort_taken t p (at_line 11 k a 0 r) 1 sq ≡ true → Reach (at 11 k a 0 r) (x ++ mark_text k 1) (termed t p (at_line 11 k a 0 r) a q 0)
    unfolding size_at ok_at text_at next_at node_name operand₁
    second k a r e g =
        let u = token t p (at_line 11 k a 0 r) q o.low (rw (lt-ltb q i o.earlier, o.there, o.sort) g) in
        rw (o.name, e) at u

    pub second₁₃ : (a r : ℕ) → sort_taken t p (at_line 11 13 a 0 r) 1 sq ≡ true → Reach (at 11 13 a 0 r) (x ++ mark_text 13 1) (at 12 13 a q r)
    unfolding size_at ok_at text_at next_at node_name operand₁
    second₁₃ a r g =
        let u = token t p (at_line 11 13 a 0 r) q o.low (rw (lt-ltb q i o.earlier, o.there, o.sort) g) in
        rw o.name at u

    pub third : (k a b r : ℕ) → sort_taken t p (at_line 12 k a b r) 2 sq ≡ true → Reach (at 12 k a b r) (x ++ mark_text k 2) (termed t p (at_line 12 k a b r) a b q)
    unfolding size_at ok_at text_at next_at node_name
    third k a b r g =
        let u = token t p (at_line 12 k a b r) q o.low (rw (lt-ltb q i o.earlier, o.there, o.sort) g) in
        rw o.name at u

  -- the word of an Ite, and a rounding
  pub condition : word_ok t p (at_line 9 9 0 0 0) 0 ≡ true → Reach (at 9 9 0 0 0) (bytes "#b1 ") (at 10 13 0 0 0)
  unfolding size_at ok_at first_ok text_at word_text next_at next.word
  condition e = token t p (at_line 9 9 0 0 0) 65536 (omega arith) e

  pub rounds : (k r : ℕ) → r ≤ 1 → word_ok t p (at_line 9 k 0 0 0) (r + 1) ≡ true
      → Reach (at 9 k 0 0 0) (rounding_text r ++ bytes " ") (at 10 (cond (eqb k 25) 28 k) 0 0 r)
  unfolding size_at ok_at first_ok text_at word_text next_at next.word rounding_text bytes
  rounds k zero h e = token t p (at_line 9 k 0 0 0) 65537 (omega arith) e
  rounds k (suc zero) h e = token t p (at_line 9 k 0 0 0) 65538 (omega arith) e
  rounds k (suc (suc r)) h e = absurd (omega arith)

  -- the high place of an Extract
  pub places : (hi : ℕ) → hi < 80 → place_ok t p (at_line 13 14 0 0 0) hi ≡ true
      → Reach (at 13 14 0 0 0) (decimal hi ++ (bytes " " ++ (decimal (hi + 1 - s) ++ bytes ") "))) (at 10 14 0 0 hi)
  unfolding size_at ok_at text_at next_at
  places hi h e = token t p (at_line 13 14 0 0 0) hi h e
