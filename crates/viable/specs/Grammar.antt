-- What it is to read a text of a grammar, and to stop at the first byte from which none can follow.
use Rattle.std.specs.Prelude.{◌≡◌, refl, true, false, List, [], ◌++◌, ℕ, suc, ◌+◌, ◌≤◌, ◌<◌, length, take, drop}
use Rattle.std.proofs.Common.{sym, ap, ◌∙◌, append-nil, arith, take-take, take_at, length-take-le}
use Rattle.std.proofs.lemmas.List.{append_cancel_left, take-append-le}
use Rattle.std.proofs.Math.Decide.{dec_lt}
use Rattle.std.proofs.Math.Seq.{take-append-add, take-append_seam}

-- a set of texts, each with a value
abbrev pub Gram : Type 0 → Type 1
Gram A = List ℕ → A → Type 0

-- some text is in it
pub record Some {A : Type 0} (G : Gram A) : Type 0 where
  pub text : List ℕ
  pub value : A
  pub is : G text value

-- no text of it begins another one, and each has one value
pub record Apart {A : Type 0} (G : Gram A) : Type 0 where
  pub one : (t t' : List ℕ) (a a' : A) (v : List ℕ) → G t a → G t' a' → take (length t) (t' ++ v) ≡ t → (t' ≡ t) × (a' ≡ a)

-- the bytes x begin with a text of G, of n bytes and the value a
pub record Got {A : Type 0} (G : Gram A) (x : List ℕ) (a : A) (n : ℕ) : Type 0 where
  pub text : List ℕ
  pub long : length text ≡ n
  pub is : G text a
  pub here : x ≡ text ++ drop n x

-- the bytes before the place p can go on to a text of G; with the byte at p, or the end there, none begins so, whatever follows it
pub record Bad {A : Type 0} (G : Gram A) (x : List ℕ) (p : ℕ) : Type 0 where
  pub within : p ≤ length x
  pub more : List ℕ
  pub value : A
  pub can : G (take p x ++ more) value
  pub cannot : (t : List ℕ) (a : A) (v : List ℕ) → G t a → take (suc p) (t ++ v) ≡ take (suc p) x → ⊥

-- no test has both answers
pub clash : {A : Type 0} → false ≡ true → A
clash e = absurd (let z : ◌≡◌ {A = ℕ} 0 1 = cc in omega arith)

-- what agrees on n bytes agrees on fewer
pub fewer : (k n : ℕ) (x y : List ℕ) → k ≤ n → take n x ≡ take n y → take k x ≡ take k y
fewer k n x y h e = sym (take-take k n x h) ∙ ap (take k) e ∙ take-take k n y h

-- n + k bytes of a text of n bytes and what is behind it
pub past : (t y : List ℕ) (n k : ℕ) → length t ≡ n → take (n + k) (t ++ y) ≡ t ++ take k y
past t y n k e = rw (← e) (take-append-add t y k)

-- the text f and its value are those that were read, and what is behind it agrees on p bytes and one more
pub record Meets {A : Type 0} (f t y z : List ℕ) (a' a : A) (p : ℕ) : Type 0 where
  pub text : f ≡ t
  pub value : a' ≡ a
  pub rest : take (suc p) y ≡ take (suc p) z

behind : (f t y x : List ℕ) (n p : ℕ) → f ≡ t → x ≡ t ++ drop n x → take (suc (n + p)) (f ++ y) ≡ take (suc (n + p)) x
    → take (n + suc p) (t ++ y) ≡ take (n + suc p) (t ++ drop n x)
behind f t y x n p q h e = let k : suc (n + p) ≡ n + suc p = omega arith in rw (← h, ← q, ← k) e

-- where x begins with a text of n bytes, whatever agrees with x further than that begins with the same text
pub meets : {A : Type 0} (G : Gram A) (x : List ℕ) (a : A) (n p : ℕ) → Apart G → (g : Got G x a n)
    → (f y : List ℕ) (a' : A) → G f a' → take (suc (n + p)) (f ++ y) ≡ take (suc (n + p)) x → Meets f g.text y (drop n x) a' a p
meets G x a n p apart g f y a' m e =
    let start : take n (f ++ y) ≡ g.text =
    fewer n (suc (n + p)) (f ++ y) x (omega arith) e ∙ ap (take n) g.here ∙ take_at g.text (drop n x) n g.long in
    let u = apart.one g.text f a a' y g.is m (rw g.long start) in
    record {
      text = u.0;
      value = u.1;
      rest =
          append_cancel_left g.text _ _
          (sym (past g.text y n (suc p) g.long) ∙ behind f g.text y x n p u.0 g.here e ∙ past g.text (drop n x) n (suc p) g.long);
    }

-- the texts of G, each with what f makes of its value: of a family by number, the texts with the next states
pub record Leads {A B : Type 0} (G : Gram A) (f : A → B) (t : List ℕ) (b : B) : Type 0 where
  pub value : A
  pub is : G t value
  pub to : b ≡ f value

module _ {A B : Type 0} (G : Gram A) (f : A → B) where
  pub leads-apart : Apart G → Apart (Leads G f)
  leads-apart p = record {
    one = λ t t' b b' v m m' e.
        let u = p.one t t' m.value m'.value v m.is m'.is e in
        (u.0, m'.to ∙ ap f u.1 ∙ sym m.to);
  }

  pub leads-got : (x : List ℕ) (a : A) (n : ℕ) → Got G x a n → Got (Leads G f) x (f a) n
  leads-got x a n g = record { text = g.text; long = g.long; is = record { value = a; is = g.is; to = refl }; here = g.here }

  pub leads-bad : (x : List ℕ) (p : ℕ) → Bad G x p → Bad (Leads G f) x p
  leads-bad x p b = record {
    within = b.within;
    more = b.more;
    value = f b.value;
    can = record { value = b.value; is = b.can; to = refl };
    cannot = λ t c v m e. b.cannot t m.value v m.is e;
  }

-- where texts are apart, the bytes begin with one of them at most
pub one-got : {A : Type 0} (G : Gram A) (x : List ℕ) (a b : A) (m n : ℕ) → Apart G → Got G x a m → Got G x b n → (b ≡ a) × (n ≡ m)
one-got G x a b m n apart g h =
    let e : take (length g.text) (h.text ++ drop n x) ≡ g.text =
    rw (← h.here) (ap (take (length g.text)) g.here ∙ take-append_seam g.text (drop m x)) in
    let u = apart.one g.text h.text a b (drop n x) g.is h.is e in
    (u.1, sym h.long ∙ ap length u.0 ∙ g.long)

-- there is one place where none can follow, and none where a text is there
earlier-bad : {A : Type 0} (G : Gram A) (x : List ℕ) (p q : ℕ) → Bad G x p → Bad G x q → p < q → ⊥
earlier-bad G x p q f g h =
    f.cannot (take q x ++ g.more) g.value [] g.can
    (rw append-nil (take-append-le (suc p) (take q x) g.more (rw (length-take-le q x g.within) (omega arith)) ∙ take-take (suc p) q x (omega arith)))

pub one-bad : {A : Type 0} (G : Gram A) (x : List ℕ) (p q : ℕ) → Bad G x p → Bad G x q → p ≡ q
one-bad G x p q f g = by (dec_lt p q) (dec_lt q p)
  where
    by : Dec (p < q) → Dec (q < p) → p ≡ q
    by (yes h) d = absurd (earlier-bad G x p q f g h)
    by (no h) (yes k) = absurd (earlier-bad G x q p g f k)
    by (no h) (no k) = omega arith

pub no-bad : {A : Type 0} (G : Gram A) (x : List ℕ) (a : A) (n p : ℕ) → Got G x a n → Bad G x p → ⊥
no-bad G x a n p g b = b.cannot g.text a (drop n x) g.is (ap (take (suc p)) (sym g.here))
