-- Each choice of the grammar keeps what is known, and so does a run.
use Rattle.std.specs.Prelude.{◌≡◌, refl, true, List, ℕ, zero, suc, ◌<◌, get_or, replicate}
use Rattle.std.proofs.Common.{sym, subst, arith}
use Rattle.std.proofs.lemmas.List.{length-replicate}
use Rattle.viable.specs.Runs.{Runs, end, on}
use Rattle.smtgrammar.specs.declared.Place.{Place}
use Rattle.smtgrammar.specs.declared.Line.{Line}
use Rattle.smtgrammar.specs.State.{limit, Tables, State, start}
use Rattle.smtgrammar.specs.Allowed.{ok_at}
use Rattle.smtgrammar.specs.Next.{next_at}
use Rattle.smtgrammar.specs.Grammar.{size_at, Token, done}
use Rattle.smtsound.specs.Nodes.{Nodes}
use Rattle.smtsound.specs.Lines.{Lined, at0, at1, at2, at3, at4, at5, at6, at7, at8, at9, at10, at11, at12, at13, at14, at15, Some, Sound}
use Rattle.smtsound.specs.Declaring.{begin, number, kind, late, digits, width}
use Rattle.smtsound.specs.Defining
use Rattle.smtsound.specs.Opening.{opening, place}
use Rattle.smtsound.specs.Constant.{constant}
use Rattle.smtsound.specs.Operands.{at-nine, at-ten, at-eleven, at-twelve}

module _ (t : Tables) (p : Place) (h : Nodes t p.part p.top p.owed) (has : 0 < p.count → Some t) where
  step : (l : Line) (v : ℕ) → Lined t p l → v < size_at l.stage → ok_at t p l v ≡ true → Sound (next_at t p l v)
  unfolding size_at
  step l v at0 b e = begin t p h has v b e
  step l v (at1 q) b e = number t p h has q v e
  step l v (at2 d) b e = kind t p h has _ d v e
  step l v (at3 d k) b e = late t p h has _ _ d k v e
  step l v (at4 d lo hi small zeros) b e = digits t p h has _ _ _ _ d lo hi small zeros v e
  step l v (at5 d k) b e = width t p h has _ d _ _ k v b e
  step l v (at6 q) b e = Defining.number t p h has q v e
  step l v (at7 d) b e = Defining.sort t p h has _ _ d v e
  step l v (at8 d f) b e = opening t p h has _ _ _ d f v e
  step l v (at9 d f w) b e = at-nine t p h has _ _ d _ _ v w f e
  step l v (at10 d f w) b e = at-ten t p h has _ _ d _ _ _ v w f e
  step l v (at11 d f u g w) b e = at-eleven t p h has _ _ d _ _ _ _ _ v w f u g e
  step l v (at12 d f u w i j k) b e = at-twelve t p h has _ _ d _ _ _ v f u w i j k e
  step l v (at13 d f i) b e = place t p h has _ _ _ d f i v e
  step l v (at14 m d f i c z k) b e = constant t p h has _ _ _ d f m _ _ _ v i c z k b
  step l v (at15 q) b e = Defining.assert t p h has q v

pub kept : (σ : State) (v : ℕ) → Sound σ → v < size_at σ.line.stage → ok_at σ.tables σ.place σ.line v ≡ true
    → Sound (next_at σ.tables σ.place σ.line v)
kept σ v s b e = step σ.tables σ.place s.nodes s.some σ.line v s.lined b e

pub kept_on : (σ σ' : State) (x : List ℕ) → Sound σ → Token σ x σ' → Sound σ'
kept_on σ σ' x s m = subst Sound (sym m.to) (kept σ m.value s m.is.below m.is.allowed)

pub kept-through : (σ ω : State) (x : List ℕ) → Sound σ → Runs Token done σ x ω → Sound ω
kept-through σ ω x s (end d) = s
kept-through σ ω x s (on l u q m r) = kept-through _ ω u (kept_on σ _ l s m) r

-- nothing is there at first
alike : (c n i : ℕ) → get_or (replicate n c) i c ≡ c
alike c zero zero = refl
alike c zero (suc i) = refl
alike c (suc n) zero = refl
alike c (suc n) (suc i) = alike c n i

pub sound-start : Sound start
sound-start = record {
  nodes = record {
    long = record {
      kinds = length-replicate {A = ℕ} 65536 0;
      firsts = length-replicate {A = ℕ} 65536 0;
      seconds = length-replicate {A = ℕ} 65536 0;
      thirds = length-replicate {A = ℕ} 65536 0;
      sorts = length-replicate {A = ℕ} 65536 0;
      lowest = length-replicate {A = ℕ} 3905 limit;
    };
    nodes = λ i e. absurd (e (alike 0 65536 i));
    blank = λ i _. record { first = alike 0 65536 i; second = alike 0 65536 i; third = alike 0 65536 i };
    waits = λ i e v. absurd (let z = alike 0 65536 i in omega arith);
    owes = λ z. absurd (z refl);
    early = λ q i e. absurd (e (alike 0 65536 i));
    lowest = record { has = λ s l. absurd (let z = alike limit 3905 s in omega arith); most = λ i e. absurd (e (alike 0 65536 i)) };
  };
  some = λ z. absurd (omega arith);
  lined = at0;
}
