-- THE CHOICES OF A STATE ARE APART: no text of one begins that of another.
use Rattle.std.specs.Prelude.{◌≡◌, ◌&&◌, ◌||◌, ltb, eqb, length, get_or}
use Rattle.std.proofs.Math.Path.{refl}
use Rattle.std.proofs.Common.{sym, ◌∙◌, arith, ltb-true, ltb-false, eqb-true, ne_eqb}
use Rattle.std.proofs.Math.Bool.{Bool, true, false, cond}
use mathlib.Core.List.{List, [], ◌++◌}
use Prim.Native.Nat.{ℕ, ◌-◌, ◌≤◌, ◌<◌}
use Rattle.std.proofs.lemmas.Bool.{lt-leb}
use Rattle.viable.specs.Grammar.{Apart, leads-apart, clash}
use Rattle.viable.specs.Family.{common, prefix-free}
use Rattle.sorts.specs.Sorts.{is_bits, is_float}
use Rattle.writing.specs.Bytes.{bytes}
use Rattle.smttext.specs.Names.{sort_text}
use Rattle.smtgrammar.specs.State.{Tables, State}
use Rattle.smtgrammar.specs.Present.{source}
use Rattle.smtgrammar.specs.Allowed.{ok_at, opening_ok, sort_ok, chance_ok}
use Rattle.smtgrammar.specs.Tokens.{text_at, node_name, mark_text, word_text}
use Rattle.smtgrammar.specs.Next.{next_at}
use Rattle.smtgrammar.specs.Grammar.{size_at, Choice, Token}
use Rattle.smtgrammar.specs.declared.Place.{Place}
use Rattle.smtgrammar.specs.declared.Line.{Line}
use Rattle.smtlive.specs.Tests.{neither}
use Rattle.smtlive.specs.Closed.{Each, none, ◌▸◌, each}
use Rattle.smtlive.specs.Names.{marked}
use Rattle.smtlive.specs.Families.{numbers, names, lines, numerals, binary, widths, words, name-word, word-name, sorts-differ, used, openings}

-- the line at another stage
abbrev staged : Line → ℕ → Line
staged l s = record { stage = s; node = l.node; kind = l.kind; sort = l.sort; a = l.a; b = l.b; r = l.r; left = l.left; after = l.after }

-- a property of every stage: the fifteen that have more than one choice, and the rest
by-stage : (P : ℕ → Type 0) → Each P 15 → ((s : ℕ) → 15 ≤ s → P s) → (s : ℕ) → P s
by-stage P e f s = go (ltb s 15) refl
  where
    go : (t : Bool) → ltb s 15 ≡ t → P s
    go true p = each P 15 e s (ltb-true s 15 p)
    go false p = f s (ltb-false s 15 p)

-- the stages from 15 on have one choice
one_choice : (s : ℕ) → 15 ≤ s → size_at s ≡ 1
unfolding size_at
one_choice s h =
    let no : (k : ℕ) → k < 15 → eqb s k ≡ false = λ k o. ne_eqb s k (λ z. omega arith) in
    rw (
      no 0 (omega arith),
      no 1 (omega arith),
      no 2 (omega arith),
      no 3 (omega arith),
      no 4 (omega arith),
      no 5 (omega arith),
      no 6 (omega arith),
      no 7 (omega arith),
      no 8 (omega arith),
      no 9 (omega arith),
      lt-leb s 12 (omega arith),
      no 13 (omega arith),
      no 14 (omega arith),
    )

module _ (t : Tables) (p : Place) (l : Line) where
  opened-used : (k : ℕ) → k < 28 → opening_ok t p l k ≡ true → used k ≡ true
  unfolding opening_ok used
  opened-used =
      let B = is_bits l.sort in
      each (λ k. opening_ok t p l k ≡ true → used k ≡ true) 28
      (none
      ▸ neither B ▸ neither B ▸ neither B ▸ neither B ▸ neither B ▸ neither B ▸ (λ e. refl)
      ▸ (λ e. refl) ▸ (λ e. refl) ▸ (λ e. refl) ▸ (λ e. refl) ▸ (λ e. refl) ▸ (λ e. refl) ▸ neither B
      ▸ (λ e. refl) ▸ (λ e. refl) ▸ (λ e. refl) ▸ (λ e. refl) ▸ (λ e. refl) ▸ (λ e. refl) ▸ (λ e. refl)
      ▸ (λ e. refl) ▸ (λ e. refl) ▸ (λ e. refl) ▸ (λ e. refl) ▸ (λ e. refl) ▸ neither B ▸ (λ e. refl))

  -- a sort that is allowed is bits or a float, or the one that is obliged
  sorts-apart : (i j : ℕ) → sort_ok t p l i ≡ true → sort_ok t p l j ≡ true
      → common (bytes "() " ++ (sort_text i ++ bytes " ")) (bytes "() " ++ (sort_text j ++ bytes " ")) ≡ length (bytes "() " ++ (sort_text i ++ bytes " ")) → i ≡ j
  unfolding sort_ok
  sorts-apart i j p' q e = go (eqb (get_or t.sorts l.node 0) 0) p' q
    where
      kind-of : (s : ℕ) (b c : Bool) → ((is_bits s || (is_float s && b)) && c) ≡ true → (is_bits s || is_float s) ≡ true
      kind-of s b c e = weak (is_bits s) (is_float s) b c e
        where
          weak : (x y b c : Bool) → ((x || (y && b)) && c) ≡ true → (x || y) ≡ true
          weak true y b c e = refl
          weak false true b c e = refl
          weak false false b c e = clash e

      go : (s : Bool)
          → cond s ((is_bits i || (is_float i && source t.lowest i l.node)) && chance_ok t p l i) (eqb i (get_or t.sorts l.node 0)) ≡ true
          → cond s ((is_bits j || (is_float j && source t.lowest j l.node)) && chance_ok t p l j) (eqb j (get_or t.sorts l.node 0)) ≡ true
          → i ≡ j
      go true a b = sorts-differ i j (kind-of i _ _ a) (kind-of j _ _ b) e
      go false a b = eqb-true i _ a ∙ sym (eqb-true j _ b)

  -- names of nodes and the mark of an operand
  operands : (q i j : ℕ) → i < 65536 → j < 65536
      → common (node_name t p l i ++ mark_text l.kind q) (node_name t p l j ++ mark_text l.kind q) ≡ length (node_name t p l i ++ mark_text l.kind q) → i ≡ j
  unfolding node_name
  operands q i j h k e = names (mark_text l.kind q) (marked l.kind q) i _ _ j _ _ (omega arith) (omega arith) e

  -- names and words in the place of a first operand
  first_text : ℕ → List ℕ
  first_text v = cond (ltb v 65536) (node_name t p l v ++ mark_text l.kind 0) (word_text (v - 65536))

  firsts : (i j : ℕ) → i < 65539 → j < 65539 → common (first_text i) (first_text j) ≡ length (first_text i) → i ≡ j
  unfolding first_text node_name
  firsts i j h k e = go (ltb i 65536) (ltb j 65536) refl refl e
    where
      text : Bool → ℕ → List ℕ
      text s v = cond s (node_name t p l v ++ mark_text l.kind 0) (word_text (v - 65536))

      go : (s u : Bool) → ltb i 65536 ≡ s → ltb j 65536 ≡ u → common (text s i) (text u j) ≡ length (text s i) → i ≡ j
      go true true a b e = operands 0 i j (ltb-true i 65536 a) (ltb-true j 65536 b) e
      go true false a b e = absurd (name-word i _ _ (j - 65536) (mark_text l.kind 0) e)
      go false true a b e = absurd (word-name j _ _ (i - 65536) (mark_text l.kind 0) e)
      go false false a b e =
          let x = ltb-false i 65536 a in
          let y = ltb-false j 65536 b in
          let z = words (i - 65536) (j - 65536) (omega arith) (omega arith) e in
          omega arith

  -- no choice at this stage begins another one
  abbrev Free : ℕ → Type 0
  Free s =
      (i j : ℕ) → i < size_at s → j < size_at s → ok_at t p (staged l s) i ≡ true → ok_at t p (staged l s) j ≡ true
      → common (text_at t p (staged l s) i) (text_at t p (staged l s) j) ≡ length (text_at t p (staged l s) i) → i ≡ j

  single : (s : ℕ) → 15 ≤ s → Free s
  single s h i j a b c d e = let z = one_choice s h in omega arith

  free : (s : ℕ) → Free s
  unfolding size_at ok_at text_at first_text bytes sort_ok opening_ok node_name
  free =
      by-stage Free
      (none
      ▸ (λ i j h k a b e. lines i j h k e)
      ▸ (λ i j h k a b e. numbers 95 i j [] [] (λ d o z. omega arith) (omega arith) (omega arith) e)
      ▸ (λ i j h k a b e. numbers 95 i j [] [] (λ d o z. omega arith) (omega arith) (omega arith) e)
      ▸ (λ i j h k a b e. numbers 32 i j [] [] (λ d o z. omega arith) (omega arith) (omega arith) e)
      ▸ (λ i j h k a b e. numerals i j h k e)
      ▸ (λ i j h k a b e. widths i j h k e)
      ▸ (λ i j h k a b e. numbers 32 i j [] [] (λ d o z. omega arith) (omega arith) (omega arith) e)
      ▸ (λ i j h k a b e. sorts-apart i j a b e)
      ▸ (λ i j h k a b e. openings l.sort i j h k (opened-used i h a) (opened-used j k b) e)
      ▸ (λ i j h k a b e. firsts i j h k e)
      ▸ (λ i j h k a b e. operands 0 i j h k e)
      ▸ (λ i j h k a b e. operands 1 i j h k e)
      ▸ (λ i j h k a b e. operands 2 i j h k e)
      ▸ (λ i j h k a b e. numbers 32 i j _ _ (λ d o z. omega arith) (omega arith) (omega arith) e)
      ▸ (λ i j h k a b e. binary i j (cond (eqb l.left 1) (bytes ")\n") []) h k e))
      single

-- no choice of a state begins another one
pub choices-apart : (σ : State) → Apart (Choice σ)
choices-apart σ =
    prefix-free (size_at σ.line.stage) (ok_at σ.tables σ.place σ.line) (text_at σ.tables σ.place σ.line)
    (free σ.tables σ.place σ.line σ.line.stage)

pub apart : (σ : State) → Apart (Token σ)
apart σ = leads-apart (Choice σ) (next_at σ.tables σ.place σ.line) (choices-apart σ)
