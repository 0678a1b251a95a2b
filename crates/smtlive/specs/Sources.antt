-- What a float can be made of, as a fact: some sort that suits it, below.
use Rattle.std.specs.Prelude.{◌≡◌, Bool, ◌&&◌, ◌||◌, List, eqb, get_or}
use Rattle.std.proofs.Math.Path.{refl}
use Rattle.std.proofs.Math.Bool.{true, false}
use Prim.Native.Nat.{ℕ, zero, suc, ◌+◌, ◌-◌, ◌≤◌, ◌<◌}
use Rattle.std.proofs.Common.{arith}
use borrow.Author.Tests.{ltb-true, lt-ltb, eqb-true, eq-eqb}
use Rattle.viable.specs.Grammar.{clash}
use Rattle.sorts.specs.Sorts.{is_float, is_word, pattern_width}
use Rattle.smtgrammar.specs.Present.{below, some_float, some_word, some_of, some_from, join_of, joins, source, suits}
use Rattle.smtlive.specs.Tests.{either, or_left, or_right, and_both, and_left, and_right}

-- the three formats and the three widths of whole numbers
pub by-float : {C : Type 0} (s : ℕ) → is_float s ≡ true → (s ≡ 2072 → C) → (s ≡ 2869 → C) → (s ≡ 3904 → C) → C
by-float s e a b c =
    either (eqb s 2072 || eqb s 2869) (eqb s 3904) e
    (λ e. either (eqb s 2072) (eqb s 2869) e (λ e. a (eqb-true s 2072 e)) (λ e. b (eqb-true s 2869 e)))
    (λ e. c (eqb-true s 3904 e))

by_word : {C : Type 0} (s : ℕ) → is_word s ≡ true → (s ≡ 16 → C) → (s ≡ 32 → C) → (s ≡ 64 → C) → C
by_word s e a b c =
    either (eqb s 16 || eqb s 32) (eqb s 64) e
    (λ e. either (eqb s 16) (eqb s 32) e (λ e. a (eqb-true s 16 e)) (λ e. b (eqb-true s 32 e)))
    (λ e. c (eqb-true s 64 e))

pub float-high : (s : ℕ) → is_float s ≡ true → (81 ≤ s) × (s < 3905)
float-high s e = by-float s e (λ z. (omega arith, omega arith)) (λ z. (omega arith, omega arith)) (λ z. (omega arith, omega arith))

-- which sorts suit
pub suits-pattern : (f : ℕ) → suits f (pattern_width f) ≡ true
suits-pattern f =
    or_left (eqb (pattern_width f) (pattern_width f) || is_float (pattern_width f)) _
    (or_left (eqb (pattern_width f) (pattern_width f)) _ (eq-eqb (pattern_width f) (pattern_width f) refl))

pub suits-float : (f s : ℕ) → is_float s ≡ true → suits f s ≡ true
suits-float f s e = or_left (eqb s (pattern_width f) || is_float s) _ (or_right (eqb s (pattern_width f)) (is_float s) e)

suits-word : (f s : ℕ) → eqb f 3904 ≡ true → is_word s ≡ true → suits f s ≡ true
suits-word f s q e = or_right (eqb s (pattern_width f) || is_float s) (eqb f 3904 && is_word s) (and_both (eqb f 3904) _ q e)

module _ (lowest : List ℕ) where
  -- some sort that passes the test is below n
  pub record Lower (ok : ℕ → Bool) (n : ℕ) : Type 0 where
    pub sort : ℕ
    pub passes : ok sort ≡ true
    pub low : get_or lowest sort 65535 < n

  lower : (ok : ℕ → Bool) (s n : ℕ) → ok s ≡ true → below lowest s n ≡ true → Lower ok n
  lower ok s n p e = record { sort = s; passes = p; low = ltb-true (get_or lowest s 65535) n e }

  pub some-float : (n : ℕ) → some_float lowest n ≡ true → Lower is_float n
  some-float n e =
      either (below lowest 2072 n || below lowest 2869 n) (below lowest 3904 n) e
      (λ e. either (below lowest 2072 n) (below lowest 2869 n) e (lower is_float 2072 n refl) (lower is_float 2869 n refl))
      (lower is_float 3904 n refl)

  float-some : (n : ℕ) → Lower is_float n → some_float lowest n ≡ true
  float-some n m =
      let b : below lowest m.sort n ≡ true = lt-ltb _ n m.low in
      by-float m.sort m.passes
      (λ e. or_left (below lowest 2072 n || below lowest 2869 n) _ (or_left (below lowest 2072 n) _ (rw (← e) b)))
      (λ e. or_left (below lowest 2072 n || below lowest 2869 n) _ (or_right (below lowest 2072 n) _ (rw (← e) b)))
      (λ e. or_right (below lowest 2072 n || below lowest 2869 n) _ (rw (← e) b))

  pub some_word_lem : (n : ℕ) → some_word lowest n ≡ true → Lower is_word n
  some_word_lem n e =
      either (below lowest 16 n || below lowest 32 n) (below lowest 64 n) e
      (λ e. either (below lowest 16 n) (below lowest 32 n) e (lower is_word 16 n refl) (lower is_word 32 n refl))
      (lower is_word 64 n refl)

  word_some : (n : ℕ) → Lower is_word n → some_word lowest n ≡ true
  word_some n m =
      let b : below lowest m.sort n ≡ true = lt-ltb _ n m.low in
      by_word m.sort m.passes
      (λ e. or_left (below lowest 16 n || below lowest 32 n) _ (or_left (below lowest 16 n) _ (rw (← e) b)))
      (λ e. or_left (below lowest 16 n || below lowest 32 n) _ (or_right (below lowest 16 n) _ (rw (← e) b)))
      (λ e. or_right (below lowest 16 n || below lowest 32 n) _ (rw (← e) b))

  -- a source is a sort below that suits
  pub source-some : (f n : ℕ) → source lowest f n ≡ true → Lower (suits f) n
  source-some f n e =
      either (below lowest (pattern_width f) n || some_float lowest n) (eqb f 3904 && some_word lowest n) e
      (λ e.
      either (below lowest (pattern_width f) n) (some_float lowest n) e
      (lower (suits f) (pattern_width f) n (suits-pattern f))
      (λ e. let m = some-float n e in record { sort = m.sort; passes = suits-float f m.sort m.passes; low = m.low }))
      (λ e.
      let m = some_word_lem n (and_right (eqb f 3904) _ e) in
      record { sort = m.sort; passes = suits-word f m.sort (and_left (eqb f 3904) _ e) m.passes; low = m.low })

  pub some-source : (f n : ℕ) → Lower (suits f) n → source lowest f n ≡ true
  some-source f n m =
      let s = m.sort in
      either (eqb s (pattern_width f) || is_float s) (eqb f 3904 && is_word s) m.passes
      (λ e.
      or_left (below lowest (pattern_width f) n || some_float lowest n) _
      (either (eqb s (pattern_width f)) (is_float s) e
      (λ e. or_left (below lowest (pattern_width f) n) _ (rw (← eqb-true s (pattern_width f) e) (lt-ltb _ n m.low)))
      (λ e. or_right (below lowest (pattern_width f) n) _ (float-some n (record { sort = s; passes = e; low = m.low })))))
      (λ e.
      or_right (below lowest (pattern_width f) n || some_float lowest n) _
      (and_both (eqb f 3904) _ (and_left (eqb f 3904) _ e) (word_some n (record { sort = s; passes = and_right (eqb f 3904) _ e; low = m.low }))))

  -- one of k widths from u on
  pub record Wide (u v n : ℕ) : Type 0 where
    pub width : ℕ
    pub least : u ≤ width
    pub most : width < v
    pub low : get_or lowest width 65535 < n

  some_of_lem : (k u n : ℕ) → some_of lowest k u n ≡ true → Wide u (u + k) n
  unfolding some_of
  some_of_lem zero u n e = clash e
  some_of_lem (suc k) u n e = go (below lowest u n) refl e (some_of_lem k (u + 1) n)
    where
      go : (b : Bool) → below lowest u n ≡ b → (b || some_of lowest k (u + 1) n) ≡ true
          → (some_of lowest k (u + 1) n ≡ true → Wide (u + 1) (u + 1 + k) n) → Wide u (u + suc k) n
      go true p e f = record { width = u; least = omega arith; most = omega arith; low = ltb-true _ n p }
      go false p e f =
          let w = f e in
          record { width = w.width; least = (let a = w.least in omega arith); most = (let a = w.most in omega arith); low = w.low }

  pub some-from : (u n : ℕ) → u ≤ 81 → some_from lowest u n ≡ true → Wide u 81 n
  some-from u n h e = let z : u + (81 - u) ≡ 81 = omega arith in rw z at (some_of_lem (81 - u) u n e)

  pub from_some : (u n : ℕ) → u < 81 → get_or lowest u 65535 < n → some_from lowest u n ≡ true
  unfolding some_of
  from_some u n h l = go (81 - u) (omega arith)
    where
      go : (k : ℕ) → 0 < k → some_of lowest k u n ≡ true
      go zero h = absurd (omega arith)
      go (suc k) h = or_left (below lowest u n) _ (lt-ltb _ n l)

  -- two widths that add up to s
  pub record Joined (s n : ℕ) : Type 0 where
    pub width : ℕ
    pub least : 1 ≤ width
    pub most : width < s
    pub low : get_or lowest width 65535 < n
    pub rest : get_or lowest (s - width) 65535 < n

  join-of : (k u s n : ℕ) → 1 ≤ u → u + k ≤ s → join_of lowest k u s n ≡ true → Joined s n
  unfolding join_of
  join-of zero u s n h l e = clash e
  join-of (suc k) u s n h l e =
      go (below lowest u n && below lowest (s - u) n) refl e (join-of k (u + 1) s n (omega arith) (omega arith))
    where
      go : (b : Bool) → (below lowest u n && below lowest (s - u) n) ≡ b → (b || join_of lowest k (u + 1) s n) ≡ true
          → (join_of lowest k (u + 1) s n ≡ true → Joined s n) → Joined s n
      go true p e f = record {
        width = u;
        least = h;
        most = omega arith;
        low = ltb-true _ n (and_left (below lowest u n) _ p);
        rest = ltb-true _ n (and_right (below lowest u n) _ p);
      }
      go false p e f = f e

  pub some-join : (s n : ℕ) → 1 ≤ s → joins lowest s n ≡ true → Joined s n
  some-join s n h e = join-of (s - 1) 1 s n (omega arith) (omega arith) e

-- what is below stays below, where the lowest numbers only go down
pub still : (old new : List ℕ) (ok : ℕ → Bool) (n m : ℕ) → ((s : ℕ) → get_or new s 65535 ≤ get_or old s 65535) → n ≤ m → Lower old ok n → Lower new ok m
still old new ok n m f h l = record { sort = l.sort; passes = l.passes; low = (let a = f l.sort in let b = l.low in omega arith) }
