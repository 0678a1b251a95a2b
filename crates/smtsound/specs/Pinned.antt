-- THE SECOND THEOREM: a run is determined by the nodes that it leaves.
use Rattle.std.specs.Prelude.{◌≡◌, refl, Bool, true, false, cond, ◌&&◌, List, ◌++◌, ℕ, zero, suc, ◌<◌, leb, ltb, eqb}
use Rattle.std.proofs.Common.{sym, subst, ap, ap₂, ◌∙◌, arith, eqb-true, ne_eqb, ltb-true}
use Rattle.std.proofs.Math.Path.{fun_ext}
use Rattle.std.proofs.lemmas.Bool.{eqb-false}
use Rattle.words.specs.Tests.{and_l, and_r}
use Rattle.viable.specs.Runs.{Runs, end, on}
use Rattle.smtgrammar.specs.declared.Place.{Place}
use Rattle.smtgrammar.specs.State.{limit, Tables, State, start}
use Rattle.smtgrammar.specs.Allowed.{ok_at, line_ok}
use Rattle.smtgrammar.specs.Tokens.{text_at}
use Rattle.smtgrammar.specs.Next.{next_at, begun}
use Rattle.smtgrammar.specs.Grammar.{size_at, Token, done, Reads}
use Rattle.smtsound.specs.Lines.{line, Sound}
use Rattle.smtsound.specs.Steps.{kept_on, sound-start}
use Rattle.smtsound.specs.Tables.{Is, kind_in, first_in, second_in, third_in, sort_in}
use Rattle.smtsound.specs.Final.{final, New, Said, Ends, kept}
use Rattle.smtsound.specs.Back.{back, fixed}

-- the same nodes: their rows and sorts
pub record Same (t u : Tables) : Type 0 where
  pub kinds : (j : ℕ) → kind_in t j ≡ kind_in u j
  pub field_a : (j : ℕ) → Is t j → first_in t j ≡ first_in u j
  pub field_b : (j : ℕ) → Is t j → second_in t j ≡ second_in u j
  pub field_c : (j : ℕ) → Is t j → third_in t j ≡ third_in u j
  pub sorts : (j : ℕ) → Is t j → sort_in t j ≡ sort_in u j

same_kept : (t u : Tables) → Same t u → (f g : ℕ → ℕ) → ((j : ℕ) → Is t j → f j ≡ g j) → (j : ℕ) → kept t j (f j) ≡ kept u j (g j)
same_kept t u s f g e j = rw (← s.kinds j) (go (eqb (kind_in t j) 0) refl)
  where
    go : (b : Bool) → eqb (kind_in t j) 0 ≡ b → cond b 0 (f j) ≡ cond b 0 (g j)
    go true q = refl
    go false q = e j (eqb-false (kind_in t j) 0 q)

same-final : (t u : Tables) → Same t u → final t ≡ final u
same-final t u s = λ i. record {
  kind = fun_ext s.kinds i;
  first = fun_ext (same_kept t u s (first_in t) (first_in u) s.field_a) i;
  second = fun_ext (same_kept t u s (second_in t) (second_in u) s.field_b) i;
  third = fun_ext (same_kept t u s (third_in t) (third_in u) s.field_c) i;
  sort = fun_ext (same_kept t u s (sort_in t) (sort_in u) s.sorts) i;
}

-- at the end nothing is new
old : {P : Type 0} (t : Tables) (i : ℕ) → New t (final t) i → P
old t i w = absurd (w.is w.was)

at-end : (σ : State) → done σ ≡ true → Ends σ (final σ.tables)
at-end σ d =
    let z = eqb-true σ.line.stage 0 (and_l (eqb σ.line.stage 0) (leb 1 σ.place.count) (and_l _ (eqb σ.place.owed limit && eqb σ.place.due limit) d)) in
    record {
      rows = λ i d. let z = ne_eqb (kind_in σ.tables i) 0 d in record { kind = refl; first = rw z; second = rw z; third = rw z; sort = rw z };
      tops = λ _ i w. old σ.tables i w.new;
      defs = λ _ i w. old σ.tables i w;
      gaps = λ _ i w. old σ.tables i w;
      shut = λ _ i w. old σ.tables i w;
      said = subst (λ (k : ℕ). Said σ.tables (final σ.tables) σ.line k) (sym z) tt;
    }

-- what a run fixes is so in the end
ends : (σ ω : State) (x : List ℕ) → Sound σ → Runs Token done σ x ω → Ends σ (final ω.tables)
ends σ ω x s (end d) = at-end σ d
ends σ ω x s (on {σ' = ρ} l u q m r) =
    back σ.tables σ.place (final ω.tables) s.nodes s.some σ.line m.value s.lined m.is.below m.is.allowed
    (subst (λ (τ : State). Ends τ (final ω.tables)) m.to (ends ρ ω u (kept_on σ ρ l s m) r))

-- a run that has ended does not go on
stopped : (t : Tables) (p : Place) (stage n k s a b r m q v : ℕ) → stage ≡ 0 → p.due ≡ limit → v < size_at stage → ok_at t p (line stage n k s a b r m q) v ≡ true
    → Ends (next_at t p (line stage n k s a b r m q) v) (final t) → ⊥
unfolding ok_at line_ok next_at begun size_at
stopped t p zero n k s a b r m q zero z d l ok e = old t e.said.at e.said.is.new
stopped t p zero n k s a b r m q (suc zero) z d l ok e = old t e.said.at e.said.is
stopped t p zero n k s a b r m q (suc (suc zero)) z d l ok e =
    let c = ltb-true p.due limit (and_r (eqb p.owed limit) (ltb p.due limit) ok) in omega arith
stopped t p zero n k s a b r m q (suc (suc (suc v))) z d l ok e = omega arith
stopped t p (suc stage) n k s a b r m q v z d l ok e = omega arith

stops : (σ : State) (v : ℕ) → done σ ≡ true → v < size_at σ.line.stage → ok_at σ.tables σ.place σ.line v ≡ true
    → Ends (next_at σ.tables σ.place σ.line v) (final σ.tables) → ⊥
stops σ v d =
    stopped σ.tables σ.place σ.line.stage σ.line.node σ.line.kind σ.line.sort σ.line.a σ.line.b σ.line.r σ.line.left σ.line.after v
    (eqb-true σ.line.stage 0 (and_l (eqb σ.line.stage 0) (leb 1 σ.place.count) (and_l _ (eqb σ.place.owed limit && eqb σ.place.due limit) d)))
    (eqb-true σ.place.due limit (and_r (eqb σ.place.owed limit) (eqb σ.place.due limit) (and_r (eqb σ.line.stage 0 && leb 1 σ.place.count) _ d)))

-- what the end says behind a token
behind : (σ ρ ω : State) (l u : List ℕ) → Sound σ → (m : Token σ l ρ) → Runs Token done ρ u ω
    → Ends (next_at σ.tables σ.place σ.line m.value) (final ω.tables)
behind σ ρ ω l u s m r = subst (λ (τ : State). Ends τ (final ω.tables)) m.to (ends ρ ω u (kept_on σ ρ l s m) r)

-- two runs from one state to one end are one
one-run : (σ ω ψ : State) (x y : List ℕ) → Sound σ → Runs Token done σ x ω → Runs Token done σ y ψ → final ω.tables ≡ final ψ.tables → x ≡ y
one-run σ ω ψ x y s (end d) (end c) e = refl
one-run σ ω ψ x y s (end d) (on {σ' = ρ} l u q m r) e =
    absurd (stops σ m.value d m.is.below m.is.allowed (rw (← e) at (behind σ ρ ψ l u s m r)))
one-run σ ω ψ x y s (on {σ' = ρ} l u q m r) (end d) e =
    absurd (stops σ m.value d m.is.below m.is.allowed (rw e at (behind σ ρ ω l u s m r)))
one-run σ ω ψ x y s (on {σ' = ρ} l u q m r) (on {σ' = τ} l' u' q' m' r') e =
    let v : m.value ≡ m'.value =
    fixed σ.tables σ.place (final ψ.tables) s.nodes s.some σ.line m.value m'.value s.lined
    m.is.below m'.is.below m.is.allowed m'.is.allowed (rw e at (behind σ ρ ω l u s m r)) (behind σ τ ψ l' u' s m' r') in
    let n : τ ≡ ρ = m'.to ∙ ap (next_at σ.tables σ.place σ.line) (sym v) ∙ sym m.to in
    let c : l ≡ l' = m.is.is ∙ ap (text_at σ.tables σ.place σ.line) v ∙ sym m'.is.is in
    let z : u ≡ u' = one-run ρ ω ψ u u' (kept_on σ ρ l s m) r (subst (λ (κ : State). Runs Token done κ u' ψ) n r') e in
    q ∙ ap₂ ◌++◌ c z ∙ sym q'

pub pinned : (x y : List ℕ) (ω ψ : State) → Reads x ω → Reads y ψ → Same ω.tables ψ.tables → x ≡ y
pinned x y ω ψ r r' e = one-run start ω ψ x y sound-start r r' (same-final ω.tables ψ.tables e)
