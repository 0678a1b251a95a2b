-- What reading one token promises: the choice that stands at the front, or the place from which none of those that are allowed can follow.
use Rattle.std.specs.Prelude.{◌≡◌, Bool, ◌&&◌, List, [], ◌⊎◌, Result, Ok, Err}
use Rattle.std.proofs.Math.Path.{refl}
use Rattle.std.proofs.Common.{sym, ap, ◌∙◌, inl, inr, ⊎_elim, add-one, arith}
use Rattle.std.proofs.Math.Bool.{true, false, cond}
use Prim.Native.Nat.{ℕ, zero, suc, ◌+◌, ◌<◌}
use borrow.Author.Tests.{eqb-true, eqb-false}
use Rattle.std.proofs.Math.Dec.{leb, eqb}
use Rattle.std.proofs.Math.ListN.{length}
use Rattle.viable.specs.Grammar.{Gram, Some, Apart, Got, Bad, clash, one-got, one-bad, no-bad}
use Rattle.viable.specs.Family.{common, Member, furthest, family-stops, family-reads}
use Rattle.smtgrammar.specs.State as grammar
use Rattle.smtgrammar.specs.Allowed.{line_ok, kind_ok, number_ok, digit_ok, width_ok, defined_ok, sort_ok, opening_ok, sort_taken, word_ok, first_ok, place_ok, ok_at}
use Rattle.smtgrammar.specs.Tokens.{node_name, asserted_text, text_at}
use Rattle.smtgrammar.specs.Grammar.{Choice}
use Rattle.smtgrammar.specs.declared.Place.{Place}
use Rattle.smtgrammar.specs.declared.Line.{Line}
use Rattle.smtchoices.specs.declared.State.{State}
use Rattle.smttokens.specs.declared.Token.{Token}

-- the tables of these columns
abbrev pub columns : List ℕ → List ℕ → List ℕ → List ℕ → List ℕ → List ℕ → grammar.Tables
columns kinds fa fb fc sorts lowest =
    record { kinds = kinds; field_a = fa; field_b = fb; field_c = fc; sorts = sorts; lowest = lowest }

abbrev pub state : grammar.Tables → Place → Line → grammar.State
state t p l = record { tables = t; place = p; line = l }

-- the grammar's state that is lent, with whatever second and third fields
abbrev pub shown : State → List ℕ → List ℕ → grammar.State
shown s fb fc = state (columns s.tables.kinds.now s.tables.firsts.now fb fc s.tables.sorts.now s.tables.lowest.now) s.place s.line

-- what one text makes of the search: how many bytes of it there are, all of them; or how far it and the texts before it reach
abbrev pub Tried : Bool → List ℕ → List ℕ → ℕ → Result ℕ ℕ → Type 0
Tried ok t x far (Ok n) = (ok ≡ true) × (common t x ≡ length t) × (n ≡ length t)
Tried ok t x far (Err f) = (ok ≡ true → common t x < length t) × (f ≡ cond (ok && leb far (common t x)) (common t x) far)

-- the text that was read; or the place where none can follow, which is 0 where none is allowed
abbrev pub Right : Gram ℕ → List ℕ → Result Token ℕ → Type 0
Right G x (Ok t) = Got G x t.choice t.length
Right G x (Err p) = (Some G → Bad G x p) × ((Some G → ⊥) → p ≡ 0)

-- the token at the front of x; the second and the third fields do not matter
pub record Takes (s : State) (x : List ℕ) (r : Result Token ℕ) : Type 0 where
  pub is : (fb fc : List ℕ) → Right (Choice (shown s fb fc)) x r

-- the choices of a state, by the columns that they are read by
choice-same : (s : State) (fb fc : List ℕ) → Choice (shown s [] []) ≡ Choice (shown s fb fc)
unfolding line_ok kind_ok number_ok digit_ok width_ok defined_ok sort_ok opening_ok sort_taken word_ok first_ok place_ok ok_at node_name asserted_text text_at
choice-same s fb fc = refl

pub takes : {s : State} {x : List ℕ} {r : Result Token ℕ} → Right (Choice (shown s [] [])) x r → Takes s x r
takes {s} f = record { is = λ fb fc. rw (choice-same s fb fc) at f }

-- a search over the choices: what holds of the first i of them
module _ (ok : ℕ → Bool) (text : ℕ → List ℕ) (x : List ℕ) where
  pub record Sought (i far : ℕ) : Type 0 where
    pub most : far ≡ furthest i ok text x
    pub none : (j : ℕ) → j < i → ok j ≡ true → common (text j) x < length (text j)

  pub sought-start : Sought 0 0
  unfolding furthest
  sought-start = record { most = refl; none = λ j h e. absurd (omega arith) }

  module _ (i far : ℕ) where
    pub sought-on : (f : ℕ) → Tried (ok i) (text i) x far (Err f) → Sought i far → Sought (i + 1) f
    unfolding furthest
    sought-on f m s =
        record { most = m.1 ∙ rw (add-one i, s.most); none = λ j h e. one_more j (eqb j i) refl h e (s.none j) m.0 }
      where
        one_more : (j : ℕ) (b : Bool) → eqb j i ≡ b → j < i + 1 → ok j ≡ true → (j < i → ok j ≡ true → common (text j) x < length (text j))
            → (ok i ≡ true → common (text i) x < length (text i)) → common (text j) x < length (text j)
        one_more j true q h e f g = let z : j ≡ i = eqb-true j i q in rw z (g (rw z at e))
        one_more j false q h e f g = f (let z = eqb-false j i q in omega arith) e

    pub sought-hit : (n m : ℕ) → i < n → Tried (ok i) (text i) x far (Ok m) → Got (Member n ok text) x i m
    sought-hit n m h t = rw t.2 (family-reads n ok text x i h t.0 t.1)

  nothing : (n : ℕ) → ((j : ℕ) → j < n → ok j ≡ true → ⊥) → furthest n ok text x ≡ 0
  unfolding furthest
  nothing zero f = refl
  nothing (suc n) f = go (ok n) refl (nothing n (λ j h. f j (omega arith)))
    where
      go : (b : Bool) → ok n ≡ b → furthest n ok text x ≡ 0
          → cond (b && leb (furthest n ok text x) (common (text n) x)) (common (text n) x) (furthest n ok text x) ≡ 0
      go true e z = absurd (f n (omega arith) e)
      go false e z = z

  pub sought-end : (n i far : ℕ) → Sought i far → i ≡ n → Right (Member n ok text) x (Err far)
  sought-end n i far s e = (
    λ some. rw (s.most, e) (family-stops n ok text x some (rw e at s.none)),
    λ shut. rw (s.most, e) (nothing n (λ j h k. shut (record { text = text j; value = j; is = record { below = h; allowed = k; is = refl } }))),
  )

-- some choice of n is allowed, or none
pub decided : (n : ℕ) (ok : ℕ → Bool) (text : ℕ → List ℕ) → Some (Member n ok text) ⊎ (Some (Member n ok text) → ⊥)
decided zero ok text = inr (λ s. let b = s.is.below in omega arith)
decided (suc n) ok text = go (ok n) refl (decided n ok text)
  where
    up : Some (Member n ok text) → Some (Member (suc n) ok text)
    up s = let b = s.is.below in record { text = s.text; value = s.value; is = record { below = omega arith; allowed = s.is.allowed; is = s.is.is } }

    down : ok n ≡ false → Some (Member (suc n) ok text) → Some (Member n ok text)
    down e s =
        let b = s.is.below in
        let d : s.value ≡ n → ⊥ = λ z. clash (sym e ∙ (rw z at s.is.allowed)) in
        record { text = s.text; value = s.value; is = record { below = omega arith; allowed = s.is.allowed; is = s.is.is } }

    go : (b : Bool) → ok n ≡ b → Some (Member n ok text) ⊎ (Some (Member n ok text) → ⊥) → Some (Member (suc n) ok text) ⊎ (Some (Member (suc n) ok text) → ⊥)
    go true e d = inl (record { text = text n; value = n; is = record { below = omega arith; allowed = e; is = refl } })
    go false e (inl s) = inl (up s)
    go false e (inr f) = inr (λ s. f (down e s))

-- one token stands at the front, or one place is where none can follow
module _ (n : ℕ) (ok : ℕ → Bool) (text : ℕ → List ℕ) (x : List ℕ) (apart : Apart (Member n ok text)) where
  one-stop : (p q : ℕ) → Right (Member n ok text) x (Err p) → Right (Member n ok text) x (Err q) → p ≡ q
  one-stop p q f g =
      ⊎_elim (λ s. one-bad (Member n ok text) x p q (f.0 s) (g.0 s)) (λ z. f.1 z ∙ sym (g.1 z)) (decided n ok text)

  not-both : (v k q : ℕ) → Got (Member n ok text) x v k → Right (Member n ok text) x (Err q) → ⊥
  not-both v k q f g = no-bad (Member n ok text) x v k q f (g.0 (record { text = f.text; value = v; is = f.is }))

  abbrev token : ℕ → ℕ → Token
  token v k = record { choice = v; length = k }

  same : (v w k m : ℕ) → v ≡ w → k ≡ m → token v k ≡ token w m
  same v w k m e h = rw (e, h)

  pub one_token : (r s : Result Token ℕ) → Right (Member n ok text) x r → Right (Member n ok text) x s → r ≡ s
  one_token (Ok t) (Ok u) f g = let z = one-got (Member n ok text) x t.choice u.choice t.length u.length apart f g in ap Ok (same t.choice u.choice t.length u.length (sym z.0) (sym z.1))
  one_token (Ok t) (Err q) f g = absurd (not-both t.choice t.length q f g)
  one_token (Err q) (Ok t) f g = absurd (not-both t.choice t.length q g f)
  one_token (Err q) (Err p) f g = ap Err (one-stop q p f g)
