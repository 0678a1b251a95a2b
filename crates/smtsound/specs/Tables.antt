-- The tables by number, and what a new row makes of them.
use Rattle.std.specs.Prelude.{◌≡◌, refl, true, ℕ, ◌<◌, min, length, get_or, set}
use Rattle.std.proofs.Common.{◌∙◌, arith, length-set, get_or-set_same, get_or-set_other}
use Rattle.std.proofs.Math.Decide.{ℕ_discrete}
use Rattle.smtgrammar.specs.State.{limit, Tables}
use Rattle.smtgrammar.specs.Next.{entered, obliged}

-- kind, fields and sort of node i
module _ (t : Tables) (i : ℕ) where
  abbrev pub kind_in : ℕ
  kind_in = get_or t.kinds i 0

  abbrev pub first_in : ℕ
  first_in = get_or t.field_a i 0

  abbrev pub second_in : ℕ
  second_in = get_or t.field_b i 0

  abbrev pub third_in : ℕ
  third_in = get_or t.field_c i 0

  abbrev pub sort_in : ℕ
  sort_in = get_or t.sorts i 0

-- node i is there
abbrev pub Is : Tables → ℕ → Type 0
Is t i = kind_in t i ≡ 0 → ⊥

-- numbers are equal or not
pub same? : {P : Type 0} (i n : ℕ) → (i ≡ n → P) → ((i ≡ n → ⊥) → P) → P
same? {P} i n f g = go (ℕ_discrete i n)
  where
    go : Dec (i ≡ n) → P
    go (yes e) = f e
    go (no d) = g d

-- each column has an entry for each number, and the lowest ones for each sort
pub record Long (t : Tables) : Type 0 where
  pub kinds : length t.kinds ≡ 65536
  pub firsts : length t.field_a ≡ 65536
  pub seconds : length t.field_b ≡ 65536
  pub thirds : length t.field_c ≡ 65536
  pub sorts : length t.sorts ≡ 65536
  pub lowest : length t.lowest ≡ 3905

-- node i has this row
pub record Row (t : Tables) (i k a b c s : ℕ) : Type 0 where
  pub kind : kind_in t i ≡ k
  pub first : first_in t i ≡ a
  pub second : second_in t i ≡ b
  pub third : third_in t i ≡ c
  pub sort : sort_in t i ≡ s

-- node i has in u the row that it has in t
abbrev pub Stays : Tables → Tables → ℕ → Type 0
Stays t u i = Row u i (kind_in t i) (first_in t i) (second_in t i) (third_in t i) (sort_in t i)

-- u is t with this row for node n
pub record Put (t u : Tables) (n k a b c s : ℕ) : Type 0 where
  pub long : Long u
  pub here : Row u n k a b c s
  pub others : (j : ℕ) → (j ≡ n → ⊥) → Stays t u j
  pub low : u.lowest ≡ set t.lowest s (min (get_or t.lowest s limit) n)

pub put : (t : Tables) (n k a b c s : ℕ) → Long t → n < 65535 → Put t (entered t n k a b c s) n k a b c s
unfolding entered
put t n k a b c s h l = record {
  long = record {
    kinds = length-set t.kinds n k ∙ h.kinds;
    firsts = length-set t.field_a n a ∙ h.firsts;
    seconds = length-set t.field_b n b ∙ h.seconds;
    thirds = length-set t.field_c n c ∙ h.thirds;
    sorts = length-set t.sorts n s ∙ h.sorts;
    lowest = length-set t.lowest s _ ∙ h.lowest;
  };
  here = record {
    kind = get_or-set_same t.kinds n k 0 (let q = h.kinds in omega arith);
    first = get_or-set_same t.field_a n a 0 (let q = h.firsts in omega arith);
    second = get_or-set_same t.field_b n b 0 (let q = h.seconds in omega arith);
    third = get_or-set_same t.field_c n c 0 (let q = h.thirds in omega arith);
    sort = get_or-set_same t.sorts n s 0 (let q = h.sorts in omega arith);
  };
  others = λ j d. record {
    kind = get_or-set_other t.kinds n j k 0 d;
    first = get_or-set_other t.field_a n j a 0 d;
    second = get_or-set_other t.field_b n j b 0 d;
    third = get_or-set_other t.field_c n j c 0 d;
    sort = get_or-set_other t.sorts n j s 0 d;
  };
  low = refl;
}

-- u is t with the sort f for number m
pub record Obliges (t u : Tables) (m f : ℕ) : Type 0 where
  pub long : Long u
  pub kind : (j : ℕ) → kind_in u j ≡ kind_in t j
  pub first : (j : ℕ) → first_in u j ≡ first_in t j
  pub second : (j : ℕ) → second_in u j ≡ second_in t j
  pub third : (j : ℕ) → third_in u j ≡ third_in t j
  pub here : sort_in u m ≡ f
  pub others : (j : ℕ) → (j ≡ m → ⊥) → sort_in u j ≡ sort_in t j
  pub low : u.lowest ≡ t.lowest

pub oblige : (t : Tables) (m f : ℕ) → Long t → m < 65535 → Obliges t (obliged true m f t) m f
unfolding obliged
oblige t m f h l = record {
  long = record {
    kinds = h.kinds;
    firsts = h.firsts;
    seconds = h.seconds;
    thirds = h.thirds;
    sorts = length-set t.sorts m f ∙ h.sorts;
    lowest = h.lowest;
  };
  kind = λ j. refl;
  first = λ j. refl;
  second = λ j. refl;
  third = λ j. refl;
  here = get_or-set_same t.sorts m f 0 (let q = h.sorts in omega arith);
  others = λ j d. get_or-set_other t.sorts m j f 0 d;
  low = refl;
}
