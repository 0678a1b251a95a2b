-- The term of each kind that a row allows is a run to the end of its line: terms of bits.
use Rattle.std.specs.Prelude.{◌≡◌, Bool, ◌&&◌, ◌||◌, List, ◌++◌, get_or}
use Rattle.std.proofs.Math.Path.{refl}
use Rattle.std.proofs.Common.{sym}
use Rattle.std.proofs.Math.Bool.{true, false}
use Prim.Native.Nat.{ℕ, zero, suc, ◌+◌, ◌-◌, ◌*◌, ◌/◌, ◌%◌, ◌^◌, ◌≤◌, ◌<◌}
use native.Mathlib.Omega.{arith}
use borrow.Author.Tests.{eqb-true, eqb-false, eq-eqb, leb-true, le-leb, lt-ltb, ltb-true}
use Rattle.std.proofs.Math.Dec.{leb, ltb, eqb}
use Rattle.words.specs.Tests.{and_l, and_r, and_i, or_l, or_r}
use Rattle.sorts.specs.Sorts.{is_bits}
use Rattle.sorts.specs.Good.{same, bits-lo, bits-hi, extract-places}
use Rattle.writing.specs.Bytes.{bytes, bits}
use Rattle.needs.specs.Needed.{arity}
use Rattle.smtgrammar.specs.declared.Place.{Place}
use Rattle.smtgrammar.specs.State.{limit, Tables}
use Rattle.smtgrammar.specs.Present.{below, some_of, some_from, join_of}
use Rattle.smtgrammar.specs.Allowed.{opening_ok, sort_taken, word_ok, place_ok}
use Rattle.smtgrammar.specs.Tokens.{opening_text, mark_text}
use Rattle.smtgrammar.specs.Next.{defined, termed, opened}
use Rattle.smtcomplete.specs.Lines.{both}
use Rattle.smtcomplete.specs.Words.{constant, constant-run}
use Rattle.smtcomplete.specs.Defining.{says, ends, Op, at_line, at, Term, opens, first₁₀, only₁₀, first₉, second, second₁₃, third, condition, places}
use Rattle.smtcomplete.specs.Texts.{ended, text-6, text-7, text-8, text-9, text-10, text-11, text-12, text-13, text-14, text-15}

-- some width from u on
some_of_lem : (lowest : List ℕ) (q v k u : ℕ) → u ≤ v → v < u + k → below lowest v q ≡ true → some_of lowest k u q ≡ true
unfolding some_of
some_of_lem lowest q v zero u h l e = absurd (omega arith)
some_of_lem lowest q v (suc k) u h l e = go (eqb u v) refl (some_of_lem lowest q v k (u + 1))
  where
    go : (b : Bool) → eqb u v ≡ b → (u + 1 ≤ v → v < u + 1 + k → below lowest v q ≡ true → some_of lowest k (u + 1) q ≡ true) → (below lowest u q || some_of lowest k (u + 1) q) ≡ true
    go true z f = or_l (below lowest u q) _ (rw (eqb-true u v z) e)
    go false z f = let n = eqb-false u v z in or_r (below lowest u q) _ (f (omega arith) (omega arith) e)

some-from : (lowest : List ℕ) (q v u : ℕ) → u ≤ v → v ≤ 80 → get_or lowest v limit < q → some_from lowest u q ≡ true
some-from lowest q v u h l e = some_of_lem lowest q v (81 - u) u h (omega arith) (lt-ltb _ _ e)

-- two widths that add up
join-of : (lowest : List ℕ) (q s v k u : ℕ) → u ≤ v → v < u + k → (below lowest v q && below lowest (s - v) q) ≡ true → join_of lowest k u s q ≡ true
unfolding join_of
join-of lowest q s v zero u h l e = absurd (omega arith)
join-of lowest q s v (suc k) u h l e = go (eqb u v) refl (join-of lowest q s v k (u + 1))
  where
    go : (b : Bool) → eqb u v ≡ b → (u + 1 ≤ v → v < u + 1 + k → (below lowest v q && below lowest (s - v) q) ≡ true → join_of lowest k (u + 1) s q ≡ true)
        → ((below lowest u q && below lowest (s - u) q) || join_of lowest k (u + 1) s q) ≡ true
    go true z f = or_l (below lowest u q && below lowest (s - u) q) _ (rw (eqb-true u v z) e)
    go false z f = let n = eqb-false u v z in or_r (below lowest u q && below lowest (s - u) q) _ (f (omega arith) (omega arith) e)

deep : (a b c d : Bool) → b ≡ true → ((a || b) || c) || d ≡ true
deep true b c d e = refl
deep false b c d e = rw e

module _ (t : Tables) (p : Place) (i after a b c sa sb sc : ℕ) (x y z : List ℕ) where
  -- two operands, and one
  pub binary : (s k : ℕ) → k < 28 → opened t p (at_line t p i s after 8 0 0 0 0) k ≡ at t p i s after 10 k 0 0 0 → leb 2 (arity k) ≡ true → eqb k 13 ≡ false
      → opening_ok t p (at_line t p i s after 8 0 0 0 0) k ≡ true
      → sort_taken t p (at_line t p i s after 10 k 0 0 0) 0 sa ≡ true
      → sort_taken t p (at_line t p i s after 11 k a 0 0) 1 sb ≡ true
      → termed t p (at_line t p i s after 11 k a 0 0) a b 0 ≡ defined t p (at_line t p i s after 8 0 0 0 0) k a b c
      → Op t i a sa x → Op t i b sb y
      → Term t p i s after (opening_text k s ++ ((x ++ mark_text k 0) ++ (y ++ mark_text k 1))) k a b c
  binary s k few o two l e f g d oa ob =
      both (opens t p i s after k _ few e o)
      (both (first₁₀ t p i s after a sa x oa k 0 two f) (ends d (second t p i s after b sb y ob k a 0 l g)))

  pub unary : (s k : ℕ) → k < 28 → opened t p (at_line t p i s after 8 0 0 0 0) k ≡ at t p i s after 10 k 0 0 0 → leb 2 (arity k) ≡ false
      → opening_ok t p (at_line t p i s after 8 0 0 0 0) k ≡ true
      → sort_taken t p (at_line t p i s after 10 k 0 0 0) 0 sa ≡ true
      → termed t p (at_line t p i s after 10 k 0 0 0) a 0 0 ≡ defined t p (at_line t p i s after 8 0 0 0 0) k a b c
      → Op t i a sa x
      → Term t p i s after (opening_text k s ++ (x ++ mark_text k 0)) k a b c
  unary s k few o one e f d oa = both (opens t p i s after k _ few e o) (ends d (only₁₀ t p i s after a sa x oa k 0 one f))

  -- And, Xor
  pub term-7 : ((is_bits sa && eqb sa sb) && eqb c 0) ≡ true → Op t i a sa x → Op t i b sb y → Term t p i sb after (ended a b c sb x y z 7) 7 a b c
  unfolding opened opening_ok sort_taken termed defined arity
  term-7 e oa ob =
      let q = and_l (is_bits sa && eqb sa sb) (eqb c 0) e in
      let n = eqb-true c 0 (and_r (is_bits sa && eqb sa sb) (eqb c 0) e) in
      says (text-7 a b c sb x y z)
      (binary sb 7 (omega arith) refl refl refl (rw (same sa sb is_bits q, lt-ltb _ _ ob.under)) (and_r (is_bits sa) (eqb sa sb) q) (eq-eqb sb sb refl) (rw n) oa ob)

  pub term-8 : ((is_bits sa && eqb sa sb) && eqb c 0) ≡ true → Op t i a sa x → Op t i b sb y → Term t p i sb after (ended a b c sb x y z 8) 8 a b c
  unfolding opened opening_ok sort_taken termed defined arity
  term-8 e oa ob =
      let q = and_l (is_bits sa && eqb sa sb) (eqb c 0) e in
      let n = eqb-true c 0 (and_r (is_bits sa && eqb sa sb) (eqb c 0) e) in
      says (text-8 a b c sb x y z)
      (binary sb 8 (omega arith) refl refl refl (rw (same sa sb is_bits q, lt-ltb _ _ ob.under)) (and_r (is_bits sa) (eqb sa sb) q) (eq-eqb sb sb refl) (rw n) oa ob)

  -- Eq
  pub term-9 : ((is_bits sa && eqb sa sb) && eqb c 0) ≡ true → Op t i a sa x → Op t i b sb y → Term t p i 1 after (ended a b c 1 x y z 9) 9 a b c
  unfolding opened opening_ok sort_taken termed defined arity
  term-9 e oa ob =
      let q = and_l (is_bits sa && eqb sa sb) (eqb c 0) e in
      let n = eqb-true c 0 (and_r (is_bits sa && eqb sa sb) (eqb c 0) e) in
      let w = and_l (is_bits sa) (eqb sa sb) q in
      let f = some-from t.lowest i sa 1 (bits-lo sa w) (bits-hi sa w) oa.under in
      says (text-9 a b c 1 x y z)
      (both (opens t p i 1 after 9 (at t p i 1 after 9 9 0 0 0) (omega arith) (deep (below t.lowest 1 i && below t.lowest 1 i) (some_from t.lowest 1 i) false false f) refl)
      (both (first₉ t p i 1 after a sa x oa 9 refl refl w)
      (ends (rw n) (second t p i 1 after b sb y ob 9 a 0 refl (rw oa.sort (eq-eqb sb sa (sym (eqb-true sa sb (and_r (is_bits sa) (eqb sa sb) q)))))))))

  -- BoolAnd, BoolOr, BoolNot
  pub term-10 : ((eqb sa 1 && eqb sb 1) && eqb c 0) ≡ true → Op t i a sa x → Op t i b sb y → Term t p i 1 after (ended a b c 1 x y z 10) 10 a b c
  unfolding opened opening_ok sort_taken termed defined arity
  term-10 e oa ob =
      let q = and_l (eqb sa 1 && eqb sb 1) (eqb c 0) e in
      let n = eqb-true c 0 (and_r (eqb sa 1 && eqb sb 1) (eqb c 0) e) in
      let f = and_l (eqb sa 1) (eqb sb 1) q in
      let u = rw (eqb-true sa 1 f) at (lt-ltb _ _ oa.under) in
      says (text-10 a b c 1 x y z) (binary 1 10 (omega arith) refl refl refl (rw u) f (and_r (eqb sa 1) (eqb sb 1) q) (rw n) oa ob)

  pub term-11 : ((eqb sa 1 && eqb sb 1) && eqb c 0) ≡ true → Op t i a sa x → Op t i b sb y → Term t p i 1 after (ended a b c 1 x y z 11) 11 a b c
  unfolding opened opening_ok sort_taken termed defined arity
  term-11 e oa ob =
      let q = and_l (eqb sa 1 && eqb sb 1) (eqb c 0) e in
      let n = eqb-true c 0 (and_r (eqb sa 1 && eqb sb 1) (eqb c 0) e) in
      let f = and_l (eqb sa 1) (eqb sb 1) q in
      let u = rw (eqb-true sa 1 f) at (lt-ltb _ _ oa.under) in
      says (text-11 a b c 1 x y z) (binary 1 11 (omega arith) refl refl refl (rw u) f (and_r (eqb sa 1) (eqb sb 1) q) (rw n) oa ob)

  pub term-12 : ((eqb sa 1 && eqb b 0) && eqb c 0) ≡ true → Op t i a sa x → Term t p i 1 after (ended a b c 1 x y z 12) 12 a b c
  unfolding opened opening_ok sort_taken termed defined arity
  term-12 e oa =
      let q = and_l (eqb sa 1 && eqb b 0) (eqb c 0) e in
      let n = eqb-true c 0 (and_r (eqb sa 1 && eqb b 0) (eqb c 0) e) in
      let r = eqb-true b 0 (and_r (eqb sa 1) (eqb b 0) q) in
      let f = and_l (eqb sa 1) (eqb b 0) q in
      let u = rw (eqb-true sa 1 f) at (lt-ltb _ _ oa.under) in
      says (text-12 a b c 1 x y z) (unary 1 12 (omega arith) refl refl (rw u) f (rw (n, r)) oa)

  -- Ite
  pub term-13 : ((eqb sa 1 && is_bits sb) && eqb sb sc) ≡ true → Op t i a sa x → Op t i b sb y → Op t i c sc z → Term t p i sc after (ended a b c sc x y z 13) 13 a b c
  unfolding opened opening_ok sort_taken word_ok termed defined arity
  term-13 e oa ob oc =
      let q = and_l (eqb sa 1 && is_bits sb) (eqb sb sc) e in
      let f = and_l (eqb sa 1) (is_bits sb) q in
      let u = rw (eqb-true sa 1 f) at (lt-ltb _ _ oa.under) in
      let r = eqb-true sb sc (and_r (eqb sa 1 && is_bits sb) (eqb sb sc) e) in
      let g : is_bits sc ≡ true = rw r at (and_r (eqb sa 1) (is_bits sb) q) in
      let v = lt-ltb _ _ oc.under in
      says (text-13 a b c sc x y z)
      (both (opens t p i sc after 9 (at t p i sc after 9 9 0 0 0) (omega arith) (rw (g, u, v)) refl)
      (both (condition t p i sc after (rw (u, v)))
      (both (first₁₀ t p i sc after a sa x oa 13 0 refl f)
      (both (second₁₃ t p i sc after b sb y ob a 0 (eq-eqb sb sc r)) (third t p i sc after c sc z oc 13 a b 0 (eq-eqb sc sc refl))))))

  -- Extract
  pub term-14 : ((leb c b && ltb b sa) && is_bits sa) ≡ true → Op t i a sa x → Term t p i (b - c + 1) after (ended a b c (b - c + 1) x y z 14) 14 a b c
  unfolding opened opening_ok sort_taken place_ok termed defined arity
  term-14 e oa =
      let q = extract-places sa b c e in
      let l = q.ordered in
      let h = q.inside in
      let n = q.narrow in
      let s = b - c + 1 in
      let w : is_bits s ≡ true = and_i (leb 1 s) (leb s 80) (le-leb 1 s (omega arith)) (le-leb s 80 (omega arith)) in
      let f = some-from t.lowest i sa s (omega arith) n oa.under in
      let g = some-from t.lowest i sa (b + 1) h n oa.under in
      let d : b + 1 - s ≡ c = omega arith in
      let u = places t p i s after b (omega arith) (rw (le-leb s (b + 1) (omega arith), lt-ltb b 80 (omega arith)) g) in
      says (text-14 a b c s x y z)
      (both (opens t p i s after 14 (at t p i s after 13 14 0 0 0) (omega arith) (rw (w, f)) refl)
      (both (rw d at u)
      (ends (rw d) (only₁₀ t p i s after a sa x oa 14 b refl (and_i (is_bits sa) (ltb b sa) (and_r (leb c b && ltb b sa) (is_bits sa) e) (lt-ltb b sa (omega arith)))))))

  -- Concat
  pub term-15 : (((is_bits sa && is_bits sb) && leb (sa + sb) 80) && eqb c 0) ≡ true → Op t i a sa x → Op t i b sb y → Term t p i (sa + sb) after (ended a b c (sa + sb) x y z 15) 15 a b c
  unfolding opened opening_ok sort_taken termed defined arity
  term-15 e oa ob =
      let q = and_l ((is_bits sa && is_bits sb) && leb (sa + sb) 80) (eqb c 0) e in
      let n = eqb-true c 0 (and_r ((is_bits sa && is_bits sb) && leb (sa + sb) 80) (eqb c 0) e) in
      let l = leb-true (sa + sb) 80 (and_r (is_bits sa && is_bits sb) (leb (sa + sb) 80) q) in
      let r = and_l (is_bits sa && is_bits sb) (leb (sa + sb) 80) q in
      let f = and_l (is_bits sa) (is_bits sb) r in
      let g = bits-lo sa f in
      let h = bits-lo sb (and_r (is_bits sa) (is_bits sb) r) in
      let s = sa + sb in
      let w : is_bits s ≡ true = and_i (leb 1 s) (leb s 80) (le-leb 1 s (omega arith)) (le-leb s 80 l) in
      let d : s - sa ≡ sb = omega arith in
      let u = lt-ltb _ _ ob.under in
      let j = join-of t.lowest i s sa (s - 1) 1 g (omega arith) (rw (lt-ltb _ _ oa.under, d) u) in
      says (text-15 a b c s x y z)
      (binary s 15 (omega arith) refl refl refl (rw (w, j)) (and_i (is_bits sa) _ f (rw (lt-ltb sa s (omega arith), d) u)) (rw (oa.sort, d) (eq-eqb sb sb refl)) (rw n) oa ob)

  -- a constant
  pub term-6 : (is_bits c && ltb (b * 2 ^ 64 + a) (2 ^ c)) ≡ true → a < 2 ^ 64 → Term t p i c after (ended a b c c x y z 6) 6 a b c
  unfolding opened opening_ok defined
  term-6 e h =
      says (text-6 a b c c x y z)
      (go c (and_l (is_bits c) _ e) (ltb-true _ _ (and_r (is_bits c) (ltb (b * 2 ^ 64 + a) (2 ^ c)) e)))
    where
      go : (c : ℕ) → is_bits c ≡ true → b * 2 ^ 64 + a < 2 ^ c → Term t p i c after (opening_text 6 c ++ (bits c (b * 2 ^ 64 + a) ++ bytes ")\n")) 6 a b c
      go zero f l = absurd (let q = bits-lo 0 f in omega arith)
      go (suc k) f l =
          let v = b * 2 ^ 64 + a in
          let d : v % 2 ^ 64 ≡ a = omega arith in
          let g : v / 2 ^ 64 ≡ b = omega arith in
          both (opens t p i (suc k) after 6 (record { tables = t; place = p; line = constant t p i (suc k) after 0 (suc k) }) (omega arith) (rw f) refl)
          (rw (d, g) at (constant-run t p i (suc k) after k v l))
