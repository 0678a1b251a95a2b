-- No choice of a stage begins another one, family by family.
use Rattle.std.specs.Prelude.{◌≡◌, refl, Bool, true, false, cond, not, ◌&&◌, ◌||◌, List, [], ◌∷◌, ◌++◌, ℕ, suc, ◌+◌, ◌≤◌, ◌<◌, ◌^◌, leb, eqb, length, drop}
use Rattle.std.proofs.Common.{ap, append_assoc, arith, eqb-true, leb-true, le-leb}
use Rattle.viable.specs.Grammar.{clash}
use Rattle.viable.specs.Family.{common, ended}
use Rattle.sorts.specs.Sorts.{is_bits, is_float}
use Rattle.writing.specs.Bytes.{bytes, digits, decimal}
use Rattle.smttext.specs.Names.{declared_is, declared_name, defined_name, name_from, format_text, sort_text}
use Rattle.smtgrammar.specs.Tokens.{line_text, opening_text, word_text}
use Rattle.smtlive.specs.Tests.{and_right}
use Rattle.smtlive.specs.Decimal.{lacks-decimal, decimal_injective}
use Rattle.smtlive.specs.Closed.{none, ◌▸◌, each, every, parted, Heads, heads-differ}
use Rattle.smtlive.specs.Names.{lacks-name, name-injective, Marked}

-- numbers with a byte behind them that is no digit
pub numbers : (c i j : ℕ) (u v : List ℕ) → ((d : ℕ) → d < 10 → 48 + d ≡ c → ⊥) → i < 2 ^ 64 → j < 2 ^ 64
    → common (decimal i ++ (c ∷ u)) (decimal j ++ (c ∷ v)) ≡ length (decimal i ++ (c ∷ u)) → i ≡ j
numbers c i j u v f h k e =
    decimal_injective i j h k (ended c (decimal i) (decimal j) u v (lacks-decimal c i f) (lacks-decimal c j f) e)

-- names with the same mark behind them
pub names : (m : List ℕ) → Marked m → (i k a j n b : ℕ) → i < 2 ^ 64 → j < 2 ^ 64
    → common (name_from i k a ++ m) (name_from j n b ++ m) ≡ length (name_from i k a ++ m) → i ≡ j
names m r i k a j n b h l e =
    name-injective i k a j n b h l
    (ended r.mark (name_from i k a) (name_from j n b) r.rest r.rest (lacks-name r.mark i k a r.low) (lacks-name r.mark j n b r.low)
    (rw r.is at e))

-- all are used
all : ℕ → Bool
all i = true

closed : (n : ℕ) (text : ℕ → List ℕ) → Heads n all text ≡ true → (i j : ℕ) → i < n → j < n
    → common (text i) (text j) ≡ length (text i) → i ≡ j
unfolding all
closed n text p i j h k e = heads-differ n all text p i j [] [] h k refl refl (rw (append-nil (text i), append-nil (text j)) e)
  where
    append-nil : (l : List ℕ) → l ++ [] ≡ l
    append-nil [] = refl
    append-nil (a ∷ l) = ap (λ (x : List ℕ). a ∷ x) (append-nil l)

-- what begins a line
pub lines : (i j : ℕ) → i < 3 → j < 3 → common (line_text i) (line_text j) ≡ length (line_text i) → i ≡ j
unfolding Heads every parted all line_text bytes common
lines i j h k e = closed 3 line_text refl i j h k e

-- the digits of a number, and its end
pub numerals : (i j : ℕ) → i < 11 → j < 11
    → common (cond (eqb i 10) (bytes " ") ((48 + i) ∷ [])) (cond (eqb j 10) (bytes " ") ((48 + j) ∷ []))
    ≡ length (cond (eqb i 10) (bytes " ") ((48 + i) ∷ [])) → i ≡ j
unfolding Heads every parted all bytes common
numerals i j h k e = closed 11 (λ v. cond (eqb v 10) (bytes " ") ((48 + v) ∷ [])) refl i j h k e

-- the digits of a constant
pub binary : (i j : ℕ) (m : List ℕ) → i < 2 → j < 2 → common ((48 + i) ∷ m) ((48 + j) ∷ m) ≡ suc (length m) → i ≡ j
unfolding common
binary i j m h k e =
    each (λ i. (j : ℕ) → j < 2 → common ((48 + i) ∷ m) ((48 + j) ∷ m) ≡ suc (length m) → i ≡ j) 2
    (none
    ▸ each (λ j. common (48 ∷ m) ((48 + j) ∷ m) ≡ suc (length m) → 0 ≡ j) 2 (none ▸ (λ e. refl) ▸ (λ e. absurd (omega arith)))
    ▸ each (λ j. common (49 ∷ m) ((48 + j) ∷ m) ≡ suc (length m) → 1 ≡ j) 2 (none ▸ (λ e. absurd (omega arith)) ▸ (λ e. refl)))
    i h j k e

-- the widths of a declaration
pub widths : (i j : ℕ) → i < 81 → j < 81
    → common (bytes "() (_ BitVec " ++ (decimal i ++ bytes "))\n")) (bytes "() (_ BitVec " ++ (decimal j ++ bytes "))\n"))
    ≡ length (bytes "() (_ BitVec " ++ (decimal i ++ bytes "))\n")) → i ≡ j
unfolding bytes common
widths i j h k e = numbers 41 i j (41 ∷ 10 ∷ []) (41 ∷ 10 ∷ []) (λ d k z. omega arith) (omega arith) (omega arith) (omega arith)

-- the words in the place of a first operand
pub words : (i j : ℕ) → i < 3 → j < 3 → common (word_text i) (word_text j) ≡ length (word_text i) → i ≡ j
unfolding Heads every parted all word_text bytes common
words i j h k e = closed 3 word_text refl i j h k e

-- a name and a word part at once
pub name-word : (i k a w : ℕ) (m : List ℕ) → common (name_from i k a ++ m) (word_text w) ≡ length (name_from i k a ++ m) → ⊥
unfolding name_from declared_name defined_name word_text bytes common
name-word i k a w m e = go (declared_is k) (eqb w 0) (eqb w 1) e
  where
    name : Bool → List ℕ
    name s = cond s (declared_name i k a) (defined_name i)

    word : Bool → Bool → List ℕ
    word t u = cond t (bytes "#b1 ") (cond u (bytes "RNE ") (bytes "RTZ "))

    go : (s t u : Bool) → common (name s ++ m) (word t u) ≡ length (name s ++ m) → ⊥
    go true true u e = omega arith
    go true false true e = omega arith
    go true false false e = omega arith
    go false true u e = omega arith
    go false false true e = omega arith
    go false false false e = omega arith

pub word-name : (i k a w : ℕ) (m : List ℕ) → common (word_text w) (name_from i k a ++ m) ≡ length (word_text w) → ⊥
unfolding name_from declared_name defined_name word_text bytes common
word-name i k a w m e = go (declared_is k) (eqb w 0) (eqb w 1) e
  where
    name : Bool → List ℕ
    name s = cond s (declared_name i k a) (defined_name i)

    word : Bool → Bool → List ℕ
    word t u = cond t (bytes "#b1 ") (cond u (bytes "RNE ") (bytes "RTZ "))

    go : (s t u : Bool) → common (word t u) (name s ++ m) ≡ length (word t u) → ⊥
    go true true u e = omega arith
    go true false true e = omega arith
    go true false false e = omega arith
    go false true u e = omega arith
    go false false true e = omega arith
    go false false false e = omega arith

-- bits or a float
by-sort : (P : ℕ → Type 0) → ((s : ℕ) → s ≤ 80 → P s) → P 2072 → P 2869 → P 3904 → (s : ℕ) → (is_bits s || is_float s) ≡ true → P s
by-sort P bits a b c s e = go (is_bits s) (eqb s 2072) (eqb s 2869) (eqb s 3904) refl refl refl refl e
  where
    go : (t u v w : Bool) → is_bits s ≡ t → eqb s 2072 ≡ u → eqb s 2869 ≡ v → eqb s 3904 ≡ w → (t || ((u || v) || w)) ≡ true → P s
    go true u v w p q r z e = bits s (leb-true s 80 (and_right (leb 1 s) (leb s 80) p))
    go false true v w p q r z e = rw (eqb-true s 2072 q) a
    go false false true w p q r z e = rw (eqb-true s 2869 r) b
    go false false false true p q r z e = rw (eqb-true s 3904 z) c
    go false false false false p q r z e = clash e

-- the text of a sort, in its place
sorted : ℕ → List ℕ
sorted s = bytes "() " ++ (sort_text s ++ bytes " ")

bits-text : (s : ℕ) → s ≤ 80 → sorted s ≡ bytes "() (_ BitVec " ++ (decimal s ++ bytes ") ")
unfolding sorted sort_text bytes
bits-text s h = rw (le-leb s 80 h, append_assoc (decimal s))

bits-bits : (s u : ℕ) → s ≤ 80 → u ≤ 80 → common (sorted s) (sorted u) ≡ length (sorted s) → s ≡ u
unfolding bytes common
bits-bits s u h k e =
    let w = rw (bits-text s h, bits-text u k) at e in
    numbers 41 s u (32 ∷ []) (32 ∷ []) (λ d k z. omega arith) (omega arith) (omega arith) (omega arith)

-- bits and a float part at once
bits-float : (s : ℕ) (y : List ℕ) → s ≤ 80 → common (sorted s) (bytes "() (_ F" ++ y) ≡ length (sorted s) → ⊥
unfolding bytes common
bits-float s y h e = let w = rw (bits-text s h) at e in omega arith

float-bits : (s : ℕ) (y : List ℕ) → s ≤ 80 → common (bytes "() (_ F" ++ y) (sorted s) ≡ length (bytes "() (_ F" ++ y) → ⊥
unfolding bytes common
float-bits s y h e = let w = rw (bits-text s h) at e in omega arith

pub sorts-differ : (i j : ℕ) → (is_bits i || is_float i) ≡ true → (is_bits j || is_float j) ≡ true
    → common (bytes "() " ++ (sort_text i ++ bytes " ")) (bytes "() " ++ (sort_text j ++ bytes " ")) ≡ length (bytes "() " ++ (sort_text i ++ bytes " ")) → i ≡ j
unfolding sorted sort_text format_text decimal digits bytes common
sorts-differ i j p q e =
    by-sort (λ i. (j : ℕ) → (is_bits j || is_float j) ≡ true → common (sorted i) (sorted j) ≡ length (sorted i) → i ≡ j)
    (λ s h.
    by-sort (λ j. common (sorted s) (sorted j) ≡ length (sorted s) → s ≡ j)
    (λ u k. bits-bits s u h k)
    (λ e. absurd (bits-float s _ h e)) (λ e. absurd (bits-float s _ h e)) (λ e. absurd (bits-float s _ h e)))
    (by-sort (λ j. common (sorted 2072) (sorted j) ≡ length (sorted 2072) → 2072 ≡ j)
    (λ u k e. absurd (float-bits u (drop 7 (sorted 2072)) k e)) (λ e. refl) (λ e. absurd (omega arith)) (λ e. absurd (omega arith)))
    (by-sort (λ j. common (sorted 2869) (sorted j) ≡ length (sorted 2869) → 2869 ≡ j)
    (λ u k e. absurd (float-bits u (drop 7 (sorted 2869)) k e)) (λ e. absurd (omega arith)) (λ e. refl) (λ e. absurd (omega arith)))
    (by-sort (λ j. common (sorted 3904) (sorted j) ≡ length (sorted 3904) → 3904 ≡ j)
    (λ u k e. absurd (float-bits u (drop 7 (sorted 3904)) k e)) (λ e. absurd (omega arith)) (λ e. absurd (omega arith)) (λ e. refl))
    i p j q e

-- what opens a term: its first bytes and what is left
unfoldable pub used : ℕ → Bool
used k = leb 6 k && (not (eqb k 13) && not (eqb k 26))

head_text : ℕ → List ℕ
head_text k = cond (eqb k 25) (bytes "((_ to_fp ") (cond (eqb k 27) (bytes "((_ fp.to_sbv ") (opening_text k 0))

tail_text : ℕ → ℕ → List ℕ
tail_text k s = cond (eqb k 25) (format_text s ++ bytes ") ") (cond (eqb k 27) (decimal s ++ bytes ") ") [])

opening-is : (s k : ℕ) → k < 28 → used k ≡ true → opening_text k s ≡ head_text k ++ tail_text k s
unfolding used head_text tail_text opening_text bytes
opening-is s =
    each (λ k. used k ≡ true → opening_text k s ≡ head_text k ++ tail_text k s) 28
    (none
    ▸ clash ▸ clash ▸ clash ▸ clash ▸ clash ▸ clash ▸ (λ e. refl)
    ▸ (λ e. refl) ▸ (λ e. refl) ▸ (λ e. refl) ▸ (λ e. refl) ▸ (λ e. refl) ▸ (λ e. refl) ▸ clash
    ▸ (λ e. refl) ▸ (λ e. refl) ▸ (λ e. refl) ▸ (λ e. refl) ▸ (λ e. refl) ▸ (λ e. refl) ▸ (λ e. refl)
    ▸ (λ e. refl) ▸ (λ e. refl) ▸ (λ e. refl) ▸ (λ e. refl) ▸ (λ e. refl) ▸ clash ▸ (λ e. refl))

-- the openings part at once
pub openings : (s i j : ℕ) → i < 28 → j < 28 → used i ≡ true → used j ≡ true
    → common (opening_text i s) (opening_text j s) ≡ length (opening_text i s) → i ≡ j
unfolding used head_text opening_text bytes Heads every parted common
openings s i j h k p q e =
    heads-differ 28 used head_text refl i j (tail_text i s) (tail_text j s) h k p q (rw (opening-is s i h p, opening-is s j k q) at e)
