-- The table is looked up by one number for a text, and that finds what its letters find.
use mathlib.Core.Path.{◌≡◌, refl, sym, ◌∙◌, ap}
use mathlib.Core.Bool.{Bool, true, false, cond, ◌&&◌, and-false}
use mathlib.Core.List.{List, [], ◌∷◌, ◌++◌, map, append-nil, append_assoc}
use Prim.Native.Nat.{ℕ, zero, suc, ◌+◌, ◌*◌, ◌^◌, ◌<◌, ◌≤◌}
use native.Mathlib.Nat.{pow-suc}
use native.Mathlib.Omega.{arith}
use lib.Dec.{eqb, ltb, leb}
use lib.ListN.{length, length-append}
use borrow.Author.Tests.{eq-eqb, ne_eqb, lt-ltb, lt-leb, le-leb, ltb-true, eqb-true, eqb-false, leb-true}
use Rattle.std.specs.Prelude.{Option, Some, option_map}
use Rattle.std.specs.List as list
use Rattle.words.specs.Bytes.{little_endian}
use Rattle.words.specs.Tests.{and_l, and_r}
use Rattle.texts.specs.Bytes.{all}
use Rattle.texts.specs.Letters.{lower_of, trim_of, same_letters}
use Rattle.forms.specs.Inside.Keys.{lower_is, key_of, family_by}
use Rattle.forms.specs.declared.names.Name as row
use Rattle.forms.specs.Names.{Name, names, find, family_of}

-- a letter of a name: small, and no zero byte
abbrev letter_is : ℕ → Bool
letter_is y = ltb 0 y && (ltb y 256 && eqb (lower_of y) y)

-- a name has one to eight letters
abbrev name_is : Name → Bool
name_is n = all letter_is n.text && (leb (length n.text) 8 && ltb 0 (length n.text))

letter : (y : ℕ) (r : List ℕ) → all letter_is (y ∷ r) ≡ true → (0 < y) × (y < 256) × (lower_of y ≡ y) × (all letter_is r ≡ true)
letter y r e =
    let p = and_l (letter_is y) (all letter_is r) e in
    let q = and_r (ltb 0 y) (ltb y 256 && eqb (lower_of y) y) p in
    (ltb-true 0 y (and_l (ltb 0 y) (ltb y 256 && eqb (lower_of y) y) p), ltb-true y 256 (and_l (ltb y 256) (eqb (lower_of y) y) q), eqb-true (lower_of y) y (and_r (ltb y 256) (eqb (lower_of y) y) q), and_r (letter_is y) (all letter_is r) e)

lowered : (x : ℕ) (t : List ℕ) → all lower_is (x ∷ t) ≡ true → (0 < lower_of x) × (lower_of x < 256) × (all lower_is t ≡ true)
lowered x t e =
    let p = and_l (lower_is x) (all lower_is t) e in
    (ltb-true 0 (lower_of x) (and_l (ltb 0 (lower_of x)) (ltb (lower_of x) 256) p), ltb-true (lower_of x) 256 (and_r (ltb 0 (lower_of x)) (ltb (lower_of x) 256) p), and_r (lower_is x) (all lower_is t) e)

digit : (x y a b : ℕ) (s t : Bool) → x < 256 → y < 256 → eqb x y ≡ s → eqb a b ≡ t → eqb (x + 256 * a) (y + 256 * b) ≡ (s && t)
digit x y a b true true h k p q =
    let e = eqb-true x y p in
    let f = eqb-true a b q in
    eq-eqb (x + 256 * a) (y + 256 * b) (omega arith)
digit x y a b true false h k p q =
    let f = eqb-false a b q in
    ne_eqb (x + 256 * a) (y + 256 * b) (λ z. f (omega arith))
digit x y a b false t h k p q =
    let e = eqb-false x y p in
    ne_eqb (x + 256 * a) (y + 256 * b) (λ z. e (omega arith))

-- texts without a zero byte have one number exactly if they have the same letters
same_number : (t r : List ℕ) → all lower_is t ≡ true → all letter_is r ≡ true → eqb (little_endian (map lower_of t)) (little_endian r) ≡ same_letters t r
same_number [] [] h k = refl
same_number [] (y ∷ r) h k =
    let l = letter y r k in
    ne_eqb 0 (y + 256 * little_endian r) (λ z. omega arith)
same_number (x ∷ t) [] h k =
    let l = lowered x t h in
    ne_eqb (lower_of x + 256 * little_endian (map lower_of t)) 0 (λ z. omega arith)
same_number (x ∷ t) (y ∷ r) h k =
    let l = letter y r k in
    let m = lowered x t h in
    digit (lower_of x) y (little_endian (map lower_of t)) (little_endian r) (eqb (lower_of x) (lower_of y)) (same_letters t r) m.1 l.1 (rw l.2) (same_number t r m.2 l.3)

-- a text with the letters of a name has none that is zero, and as many
fits : (t r : List ℕ) → same_letters t r ≡ true → all letter_is r ≡ true → (all lower_is t ≡ true) × (length t ≡ length r)
fits [] [] e k = (refl, refl)
fits [] (y ∷ r) e k = absurd (mathlib.Core.Bool.false≢true e)
fits (x ∷ t) [] e k = absurd (mathlib.Core.Bool.false≢true e)
fits (x ∷ t) (y ∷ r) e k =
    let l = letter y r k in
    let q = eqb-true (lower_of x) (lower_of y) (and_l (eqb (lower_of x) (lower_of y)) (same_letters t r) e) in
    let f = fits t r (and_r (eqb (lower_of x) (lower_of y)) (same_letters t r) e) l.3 in
    (rw (lt-ltb 0 (lower_of x) (omega arith), lt-ltb (lower_of x) 256 (omega arith)) f.0, ap suc f.1)

positive : (r : List ℕ) → 0 < length r → all letter_is r ≡ true → 0 < little_endian r
positive [] h k = absurd (omega arith)
positive (y ∷ r) h k = let l = letter y r k in omega arith

module _ (t r : List ℕ) (k : all letter_is r ≡ true) (h : length r ≤ 8) (l : 0 < length r) where
  -- a text that is no candidate has not the letters of a name
  apart : (b s : Bool) → (leb (length t) 8 && all lower_is t) ≡ b → same_letters t r ≡ s → eqb (cond b (little_endian (map lower_of t)) 0) (little_endian r) ≡ s
  apart true s e q = same_number t r (and_r (leb (length t) 8) (all lower_is t) e) k ∙ q
  apart false false e q = let p = positive r l k in ne_eqb 0 (little_endian r) (λ z. omega arith)
  apart false true e q =
      let f = fits t r q k in
      absurd (mathlib.Core.Bool.false≢true (sym e ∙ rw (le-leb (length t) 8 (omega (arith, f.1)), f.0)))

  pub key-finds : eqb (key_of t) (little_endian r) ≡ same_letters t r
  unfolding key_of
  key-finds = apart (leb (length t) 8 && all lower_is t) (same_letters t r) refl refl

same_way : (a b : ℕ) (e : Bool) → eqb b a ≡ e → eqb a b ≡ e
same_way a b true q = eq-eqb a b (sym (eqb-true b a q))
same_way a b false q = ne_eqb a b (λ z. eqb-false b a q (sym z))

-- the rule of the table, computed: each name has one to eight small letters
names-rule : all name_is names ≡ true
unfolding names
names-rule = refl

-- one row: a name has the key of a text exactly if it has its letters
at_row : (t : List ℕ) (n : Name) → name_is n ≡ true → eqb (little_endian n.text) (key_of t) ≡ same_letters t n.text
at_row t n h =
    let f = and_r (all letter_is n.text) (leb (length n.text) 8 && ltb 0 (length n.text)) h in
    let k = key-finds t n.text (and_l (all letter_is n.text) (leb (length n.text) 8 && ltb 0 (length n.text)) h)
    (leb-true (length n.text) 8 (and_l (leb (length n.text) 8) (ltb 0 (length n.text)) f))
    (ltb-true 0 (length n.text) (and_r (leb (length n.text) 8) (ltb 0 (length n.text)) f)) in
    same_way (little_endian n.text) (key_of t) (same_letters t n.text) k

-- the source's row of a name
abbrev pub row_of : Name → row.Name
row_of n = record { key = little_endian n.text; family = n.family }

-- looking a text up by its key finds what its letters find, in any table of such names
find-key : (t : List ℕ) (ns : List Name) → all name_is ns ≡ true → family_by (key_of t) (map row_of ns) ≡ find t ns
unfolding family_by
find-key t [] h = refl
find-key t (n ∷ ns) h =
    rw (at_row t n (and_l (name_is n) (all name_is ns) h)) (way (same_letters t n.text) (find-key t ns (and_r (name_is n) (all name_is ns) h)))
  where
    rest : Option row.Name
    rest = list.find (λ (r : row.Name). eqb r.key (key_of t)) (map row_of ns)

    way : (e : Bool) → option_map (λ (r : row.Name). r.family) rest ≡ find t ns → option_map (λ (r : row.Name). r.family) (cond e (Some (row_of n)) rest) ≡ cond e (Some n.family) (find t ns)
    way true h = refl
    way false h = h

pub found : (s : List ℕ) → family_by (key_of (trim_of s)) (map row_of names) ≡ family_of s
unfolding family_of
found s = find-key (trim_of s) names names-rule

-- the number of a short text is small
bound : (l : List ℕ) (k : ℕ) → length l ≤ k → all lower_is l ≡ true → little_endian (map lower_of l) < 256 ^ k
bound [] zero h e = omega arith
bound [] (suc k) h e =
    let p = bound [] k (omega arith) refl in
    rw (pow-suc 256 k) (omega arith)
bound (x ∷ l) zero h e = absurd (omega arith)
bound (x ∷ l) (suc k) h e =
    let m = lowered x l e in
    let p = bound l k (omega arith) m.2 in
    rw (pow-suc 256 k) (omega arith)

-- a part of a list with an entry that fails
none-in : (r t : List ℕ) → all lower_is t ≡ false → all lower_is (r ++ t) ≡ false
none-in [] t e = e
none-in (x ∷ r) t e = rw (none-in r t e) (and-false (lower_is x))

-- the letters behind r of a short text s have been read, and their number is n
pub record Read (s r : List ℕ) (n : ℕ) : Type 0 where
  pub done : List ℕ
  pub short : length s ≤ 8
  pub whole : r ++ done ≡ s
  pub number : n ≡ little_endian (map lower_of done)
  pub letters : all lower_is done ≡ true

pub read-none : (s : List ℕ) → length s ≤ 8 → Read s s 0
read-none s h = record { done = []; short = h; whole = append-nil s; number = refl; letters = refl }

module _ {s t : List ℕ} {n : ℕ} (r : List ℕ) (x : ℕ) (p : Read s t n) (e : t ≡ r ++ x ∷ []) where
  parts : r ++ x ∷ p.done ≡ s
  parts = sym (append_assoc r (x ∷ []) p.done) ∙ rw (← e) p.whole

  -- it has at most seven letters, and one more is read
  pub read-small : n < 72057594037927936
  read-small =
      let l : length p.done ≤ 7 = omega (arith, ap length parts, length-append r (x ∷ p.done), p.short) in
      rw p.number (bound p.done 7 l p.letters)

  pub read-on : (b : ℕ) → b ≡ lower_of x → (b ≡ 0 → ⊥) → b < 256 → Read s r (n * 256 + b)
  read-on b q z h =
      record {
        done = x ∷ p.done;
        short = p.short;
        whole = parts;
        number = rw (← q, ← p.number) (omega arith);
        letters = rw (← q, lt-ltb 0 b (omega arith), lt-ltb b 256 h) p.letters;
      }

  pub read-zero : (b : ℕ) → b ≡ lower_of x → b ≡ 0 → 0 ≡ key_of s
  unfolding key_of
  read-zero b q z = rw (← parts, none-in r (x ∷ p.done) (rw (← q, z)), and-false)

pub read-all : (s r : List ℕ) (n : ℕ) → Read s r n → length r ≡ 0 → n ≡ key_of s
unfolding key_of
read-all s [] n p h = rw (← p.whole, le-leb (length p.done) 8 (omega (arith, ap length p.whole, p.short)), p.letters) p.number
read-all s (x ∷ r) n p h = absurd (omega arith)

pub key-long : (s : List ℕ) → 8 < length s → 0 ≡ key_of s
unfolding key_of
key-long s h = rw (lt-leb (length s) 8 h)
