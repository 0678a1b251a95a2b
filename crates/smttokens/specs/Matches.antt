-- How much of a text stands at the front of another, part by part.
use Rattle.std.specs.Prelude.{◌≡◌, refl, Bool, true, false, cond, List, [], ◌∷◌, ◌++◌, ℕ, suc, ◌+◌, ◌<◌, eqb, length, get_or, Result, Ok, Err}
use Rattle.std.proofs.Common.{sym, ap, ◌∙◌, append-nil, append_assoc, arith, eq-eqb, ne_eqb, length-append}
use Rattle.std.specs.Result.{IsErrAnd}
use Rattle.viable.specs.Family.{common}

-- all of t stands at the front of x, and ends at a place
pub record There (t x : List ℕ) (at : ℕ) : Type 0 where
  pub all : common t x ≡ length t
  pub ends : at ≡ length t

-- .. or only so many bytes of it do
pub record Part (t x : List ℕ) (far : ℕ) : Type 0 where
  pub less : common t x < length t
  pub reach : far ≡ common t x

abbrev pub Matches : List ℕ → List ℕ → Result ℕ ℕ → Type 0
Matches t x (Ok at) = There t x at
Matches t x (Err far) = Part t x far

-- r says it of a text that ends with a, of which what is before a ends at a place
pub record Extends (a x : List ℕ) (at : ℕ) (r : Result ℕ ℕ) : Type 0 where
  pub on : (t : List ℕ) → There t x at → Matches (t ++ a) x r

-- all of t, and the byte behind it
all-and : (t x : List ℕ) (b : ℕ) → common t x ≡ length t → length t < length x → get_or x (length t) 0 ≡ b → common (t ++ (b ∷ [])) x ≡ length t + 1
unfolding common
all-and [] [] b e h q = absurd (omega arith)
all-and [] (c ∷ x) b e h q = rw (eq-eqb b c (sym q))
all-and (a ∷ t) [] b e h q = absurd (omega arith)
all-and (a ∷ t) (c ∷ x) b e h q = go (eqb a c) e (all-and t x b)
  where
    go : (s : Bool) → cond s (suc (common t x)) 0 ≡ suc (length t) → (common t x ≡ length t → length t < length x → get_or x (length t) 0 ≡ b → common (t ++ (b ∷ [])) x ≡ length t + 1)
        → cond s (suc (common (t ++ (b ∷ [])) x)) 0 ≡ suc (length t) + 1
    go true e f = let k = f (omega arith) (omega arith) q in omega arith
    go false e f = absurd (omega arith)

-- all of t, and no such byte
all-not : (t x : List ℕ) (b : ℕ) → common t x ≡ length t → (length t < length x → get_or x (length t) 0 ≡ b → ⊥) → common (t ++ (b ∷ [])) x ≡ length t
unfolding common
all-not [] [] b e q = refl
all-not [] (c ∷ x) b e q = rw (ne_eqb b c (λ z. q (omega arith) (sym z)))
all-not (a ∷ t) [] b e q = absurd (omega arith)
all-not (a ∷ t) (c ∷ x) b e q = go (eqb a c) e (all-not t x b)
  where
    go : (s : Bool) → cond s (suc (common t x)) 0 ≡ suc (length t) → (common t x ≡ length t → (length t < length x → get_or x (length t) 0 ≡ b → ⊥) → common (t ++ (b ∷ [])) x ≡ length t)
        → cond s (suc (common (t ++ (b ∷ [])) x)) 0 ≡ suc (length t)
    go true e f = let k = f (omega arith) (λ h z. q (omega arith) z) in omega arith
    go false e f = absurd (omega arith)

-- not all of t: what is behind it does not matter
not-all : (t x u : List ℕ) → (common t x ≡ length t → ⊥) → common (t ++ u) x ≡ common t x
unfolding common
not-all [] x u q = absurd (q refl)
not-all (a ∷ t) [] u q = refl
not-all (a ∷ t) (c ∷ x) u q = go (eqb a c) refl (not-all t x u)
  where
    go : (s : Bool) → eqb a c ≡ s → ((common t x ≡ length t → ⊥) → common (t ++ u) x ≡ common t x)
        → cond s (suc (common (t ++ u) x)) 0 ≡ cond s (suc (common t x)) 0
    go true e f = ap suc (f (λ z. q (rw e (ap suc z))))
    go false e f = refl

module _ {a x : List ℕ} {at : ℕ} where
  -- one part, and then another
  pub then : {b : List ℕ} {p : ℕ} {r : Result ℕ ℕ} → Extends a x at (Ok p) → Extends b x p r → Extends (a ++ b) x at r
  then {b} e f = record { on = λ t h. rw (← append_assoc t a b) (f.on (t ++ a) (e.on t h)) }

  -- where not all was there, what is behind it does not matter
  pub stops : (b : List ℕ) {f : ℕ} → Extends a x at (Err f) → Extends (a ++ b) x at (Err f)
  stops b {f} e = record { on = λ t h. rw (← append_assoc t a b) (longer (t ++ a) (e.on t h)) }
    where
      longer : (t : List ℕ) → Part t x f → Part (t ++ b) x f
      longer t p =
          let k = p.less in
          let z = not-all t x b (λ q. omega arith) in
          record { less = omega (arith, length-append t b); reach = p.reach ∙ sym z }

  -- .. as `?` hands it on
  pub ended : (b : List ℕ) {f : ℕ} (r : Result ℕ ℕ) → IsErrAnd r (λ (g : ℕ). g ≡ f) → Extends a x at (Err f) → Extends (a ++ b) x at r
  ended b (Ok n) e h = absurd e
  ended b (Err g) e h = rw e (stops b h)

  -- the same text by another name
  pub also : {b : List ℕ} {r : Result ℕ ℕ} → a ≡ b → Extends a x at r → Extends b x at r
  also e h = rw (← e) h

-- no text
pub nothing : {x : List ℕ} {at : ℕ} → Extends [] x at (Ok at)
nothing = record { on = λ t h. rw (append-nil t) h }

-- a whole text
pub whole : {a x : List ℕ} {r : Result ℕ ℕ} → Extends a x 0 r → Matches a x r
unfolding common
whole e = e.on [] (record { all = refl; ends = refl })

-- one byte more: it is there, or not
module _ {x : List ℕ} {at b : ℕ} where
  pub hit : {p : ℕ} → at < length x → get_or x at 0 ≡ b → p ≡ at + 1 → Extends (b ∷ []) x at (Ok p)
  hit l q n =
      record {
        on = λ t h.
            let k = h.ends in
            let z = all-and t x b h.all (rw k at l) (rw k at q) in
            record { all = omega (arith, length-append t (b ∷ [])); ends = omega (arith, length-append t (b ∷ [])) };
      }

  pub miss : (at < length x → get_or x at 0 ≡ b → ⊥) → Extends (b ∷ []) x at (Err at)
  miss q =
      record {
        on = λ t h.
            let k = h.ends in
            let z = all-not t x b h.all (rw k at q) in
            record { less = omega (arith, length-append t (b ∷ [])); reach = omega arith };
      }
