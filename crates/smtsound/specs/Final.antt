-- What the tables at the end say of the state before: nodes stay, and the line that is being read becomes one.
use Rattle.std.specs.Prelude.{◌≡◌, Bool, true, false, cond, ◌&&◌, ◌||◌, ℕ, zero, suc, ◌+◌, ◌*◌, ◌^◌, ◌≤◌, ◌<◌, leb, eqb}
use Rattle.std.proofs.Common.{sym, ◌∙◌, arith}
use Rattle.smttext.specs.Names.{declared_is}
use Rattle.smtgrammar.specs.declared.Line.{Line}
use Rattle.smtgrammar.specs.State.{Tables, State}
use Rattle.smtsound.specs.Tables.{kind_in, first_in, second_in, third_in, sort_in, Put, Is, same?}
use Rattle.smtsound.specs.Numerals.{Begins}

-- the tables as functions
pub record Final : Type 0 where
  pub kind : ℕ → ℕ
  pub first : ℕ → ℕ
  pub second : ℕ → ℕ
  pub third : ℕ → ℕ
  pub sort : ℕ → ℕ

-- what the tables hold for node i, where it is there
abbrev pub kept : Tables → ℕ → ℕ → ℕ
kept t i v = cond (eqb (kind_in t i) 0) 0 v

abbrev pub final : Tables → Final
final t =
    record {
      kind = λ i. kind_in t i;
      first = λ i. kept t i (first_in t i);
      second = λ i. kept t i (second_in t i);
      third = λ i. kept t i (third_in t i);
      sort = λ i. kept t i (sort_in t i);
    }

-- node i ends with this row
pub record Held (F : Final) (i k a b c s : ℕ) : Type 0 where
  pub kind : F.kind i ≡ k
  pub first : F.first i ≡ a
  pub second : F.second i ≡ b
  pub third : F.third i ≡ c
  pub sort : F.sort i ≡ s

-- node i has the row at the end that it has now
abbrev pub Holds : Tables → Final → ℕ → Type 0
Holds t F i = Held F i (kind_in t i) (first_in t i) (second_in t i) (third_in t i) (sort_in t i)

-- node i is not there yet, and will be
pub record New (t : Tables) (F : Final) (i : ℕ) : Type 0 where
  pub was : kind_in t i ≡ 0
  pub is : F.kind i ≡ 0 → ⊥

-- .. and declared
pub record Declared (t : Tables) (F : Final) (i : ℕ) : Type 0 where
  pub new : New t F i
  pub is : declared_is (F.kind i) ≡ true

-- what opens a term of kind k
abbrev pub open_of : ℕ → ℕ
open_of k = cond (eqb k 13) 9 (cond (eqb k 28 || eqb k 29) 25 k)

-- the kind as it is known before the first operand
abbrev pub early_of : ℕ → ℕ
early_of k = cond (eqb k 29) 28 k

-- kinds that hold a rounding or a place in their second field, or in their third
abbrev pub holds₂ : ℕ → Bool
holds₂ k = (eqb k 14 || (eqb k 23 || eqb k 24)) || (eqb k 27 || eqb k 28)

abbrev pub holds₃ : ℕ → Bool
holds₃ k = leb 16 k && leb k 19

module _ (t : Tables) (F : Final) where
  -- some node will be declared; this one, the lowest; of this kind
  pub record Line1 : Type 0 where
    pub at : ℕ
    pub is : Declared t F at

  pub record Line2 (n : ℕ) : Type 0 where
    pub is : Declared t F n
    pub low : (i : ℕ) → Declared t F i → n ≤ i

  pub record Line3 (n k : ℕ) : Type 0 where
    pub node : Line2 n
    pub kind : F.kind n ≡ k

  -- with these first digits, all of them in the end
  pub record Line4 (n k a m : ℕ) : Type 0 where
    pub line : Line3 n k
    pub more : ℕ
    pub begins : Begins a (F.first n) more
    pub alone : m ≡ 1 → a ≡ 0 → F.first n ≡ 0

  pub record Line5 (n k a : ℕ) : Type 0 where
    pub line : Line3 n k
    pub first : F.first n ≡ a

  -- some node will be defined; this one, the lowest; of this sort
  pub record Line6 : Type 0 where
    pub at : ℕ
    pub is : New t F at

  pub record Line7 (n : ℕ) : Type 0 where
    pub is : New t F n
    pub low : (i : ℕ) → New t F i → n ≤ i

  pub record Line8 (n s : ℕ) : Type 0 where
    pub node : Line7 n
    pub sort : F.sort n ≡ s

  -- opened so; of this kind and rounding; with these operands
  pub record Line9 (n s k : ℕ) : Type 0 where
    pub line : Line8 n s
    pub opens : open_of (F.kind n) ≡ k

  pub record Line10 (n s k r : ℕ) : Type 0 where
    pub line : Line8 n s
    pub kind : early_of (F.kind n) ≡ k
    pub round₂ : holds₂ k ≡ true → F.second n ≡ r
    pub round₃ : holds₃ k ≡ true → F.third n ≡ r

  pub record Line11 (n s k r a : ℕ) : Type 0 where
    pub line : Line10 n s k r
    pub first : F.first n ≡ a

  pub record Line12 (n s k r a b : ℕ) : Type 0 where
    pub line : Line11 n s k r a
    pub second : F.second n ≡ b

  pub record Line13 (n s : ℕ) : Type 0 where
    pub line : Line8 n s
    pub kind : F.kind n ≡ 14

  -- a constant with these first digits
  pub record Line14 (n s a b m : ℕ) : Type 0 where
    pub line : Line8 n s
    pub kind : F.kind n ≡ 6
    pub from : (b * 2 ^ 64 + a) * 2 ^ m ≤ F.second n * 2 ^ 64 + F.first n
    pub below : F.second n * 2 ^ 64 + F.first n < (b * 2 ^ 64 + a + 1) * 2 ^ m

  abbrev pub Said : Line → ℕ → Type 0
  Said l zero = Unit {0}
  Said l (suc zero) = Line1
  Said l (suc (suc zero)) = Line2 l.node
  Said l (suc (suc (suc zero))) = Line3 l.node l.kind
  Said l (suc (suc (suc (suc zero)))) = Line4 l.node l.kind l.a l.left
  Said l (suc (suc (suc (suc (suc zero))))) = Line5 l.node l.kind l.a
  Said l (suc (suc (suc (suc (suc (suc zero)))))) = Line6
  Said l (suc (suc (suc (suc (suc (suc (suc zero))))))) = Line7 l.node
  Said l (suc (suc (suc (suc (suc (suc (suc (suc zero)))))))) = Line8 l.node l.sort
  Said l (suc (suc (suc (suc (suc (suc (suc (suc (suc zero))))))))) = Line9 l.node l.sort l.kind
  Said l (suc (suc (suc (suc (suc (suc (suc (suc (suc (suc zero)))))))))) = Line10 l.node l.sort l.kind l.r
  Said l (suc (suc (suc (suc (suc (suc (suc (suc (suc (suc (suc zero))))))))))) = Line11 l.node l.sort l.kind l.r l.a
  Said l (suc (suc (suc (suc (suc (suc (suc (suc (suc (suc (suc (suc zero)))))))))))) = Line12 l.node l.sort l.kind l.r l.a l.b
  Said l (suc (suc (suc (suc (suc (suc (suc (suc (suc (suc (suc (suc (suc zero))))))))))))) = Line13 l.node l.sort
  Said l (suc (suc (suc (suc (suc (suc (suc (suc (suc (suc (suc (suc (suc (suc zero)))))))))))))) = Line14 l.node l.sort l.a l.b l.left
  Said l (suc (suc (suc (suc (suc (suc (suc (suc (suc (suc (suc (suc (suc (suc (suc k))))))))))))))) = Unit {0}

-- what is so at the end
pub record Ends (σ : State) (F : Final) : Type 0 where
  pub rows : (i : ℕ) → Is σ.tables i → Holds σ.tables F i
  pub tops : σ.place.part ≡ 0 → (i : ℕ) → Declared σ.tables F i → σ.place.top ≤ i
  pub defs : σ.place.part ≡ 1 → (i : ℕ) → New σ.tables F i → declared_is (F.kind i) ≡ false
  pub gaps : σ.place.part ≡ 1 → (i : ℕ) → New σ.tables F i → σ.place.gap ≤ i
  pub shut : σ.place.part ≡ 2 → (i : ℕ) → New σ.tables F i → ⊥
  pub said : Said σ.tables F σ.line σ.line.stage

-- a row was put where there was none
module _ (t u : Tables) (F : Final) (n k a b c s : ℕ) (p : Put t u n k a b c s) (was : kind_in t n ≡ 0) (some : 0 < k) (rows : (i : ℕ) → Is u i → Holds u F i) where
  pub put-here : Held F n k a b c s
  put-here =
      let r = rows n (λ z. let y = sym p.here.kind ∙ z in omega arith) in
      record {
        kind = r.kind ∙ p.here.kind;
        first = r.first ∙ p.here.first;
        second = r.second ∙ p.here.second;
        third = r.third ∙ p.here.third;
        sort = r.sort ∙ p.here.sort;
      }

  pub put-new : New t F n
  put-new = record { was = was; is = λ z. let y = sym put-here.kind ∙ z in omega arith }

  pub put-rows : (i : ℕ) → Is t i → Holds t F i
  put-rows i d =
      let o = p.others i (λ e. d (rw e was)) in
      let r = rows i (λ z. d (sym o.kind ∙ z)) in
      record {
        kind = r.kind ∙ o.kind;
        first = r.first ∙ o.first;
        second = r.second ∙ o.second;
        third = r.third ∙ o.third;
        sort = r.sort ∙ o.sort;
      }

  -- what is new is this node, or new afterwards too
  pub put-news : {P : Type 0} (i : ℕ) → New t F i → (i ≡ n → P) → (New u F i → P) → P
  put-news i w f g = same? i n f (λ d. g (record { was = (p.others i d).kind ∙ w.was; is = w.is }))
