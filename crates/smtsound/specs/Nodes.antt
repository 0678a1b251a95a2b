-- Each node that is there has the sort that its row gives, and what an FpToIeeeBv reads is there or is owed.
use Rattle.std.specs.Prelude.{◌≡◌, refl, true, ℕ, ◌^◌, ◌≤◌, ◌<◌, min}
use Rattle.std.proofs.Common.{sym, ◌∙◌, arith}
use Rattle.std.proofs.Math.Decide.{dec_lt}
use Rattle.sorts.specs.Sorts.{is_float, sort_row}
use Rattle.sorts.specs.Good.{row-good, good-small}
use Rattle.needs.specs.Needed.{arity}
use Rattle.smtgrammar.specs.State.{Tables}
use Rattle.smtsound.specs.Tables.{kind_in, first_in, second_in, third_in, sort_in, Long, Stays, Put, Obliges, Is, same?}
use Rattle.smtsound.specs.Lowest.{Lowest, put_lowest, oblige-lowest}

-- a is below n and has a sort
pub record Has (t : Tables) (n a : ℕ) : Type 0 where
  pub below : a < n
  pub some : 0 < sort_in t a

-- the row gives the sort s to node n
pub record Sorted (t : Tables) (n k a b c s : ℕ) : Type 0 where
  pub one : 1 ≤ arity k → Has t n a
  pub two : 2 ≤ arity k → Has t n b
  pub three : 3 ≤ arity k → Has t n c
  pub gives : (x y z : ℕ) → (1 ≤ arity k → x ≡ sort_in t a) → (2 ≤ arity k → y ≡ sort_in t b) → (3 ≤ arity k → z ≡ sort_in t c) → sort_row k a b c x y z ≡ s
  pub some : 0 < s
  pub kind : 0 < k
  pub most : k ≤ 29
  pub small-a : a < 2 ^ 64
  pub small_b : b < 2 ^ 64
  pub small-c : c < 2 ^ 64

pub record Node (t : Tables) (i : ℕ) : Type 0 where
  pub inside : i < 65535
  pub row : Sorted t i (kind_in t i) (first_in t i) (second_in t i) (third_in t i) (sort_in t i)

-- number i is obliged to be a float
pub record Waits (t : Tables) (top owed i : ℕ) : Type 0 where
  pub from : owed ≤ i
  pub below : i < top
  pub inside : i < 65535
  pub float : is_float (sort_in t i) ≡ true

-- .. and not there yet
pub record Owed (t : Tables) (i : ℕ) : Type 0 where
  pub was : kind_in t i ≡ 0
  pub some : 0 < sort_in t i

-- nothing stands where no node is
pub record Blank (t : Tables) (i : ℕ) : Type 0 where
  pub first : first_in t i ≡ 0
  pub second : second_in t i ≡ 0
  pub third : third_in t i ≡ 0

pub record Nodes (t : Tables) (part top owed : ℕ) : Type 0 where
  pub long : Long t
  pub nodes : (i : ℕ) → Is t i → Node t i
  pub blank : (i : ℕ) → kind_in t i ≡ 0 → Blank t i
  pub waits : (i : ℕ) → kind_in t i ≡ 0 → 0 < sort_in t i → Waits t top owed i
  pub owes : (owed ≡ 65535 → ⊥) → Owed t owed
  pub early : part ≡ 0 → (i : ℕ) → Is t i → i < top
  pub lowest : Lowest t

-- sorts that there are stay
abbrev pub Keeps : Tables → Tables → Type 0
Keeps t u = (i : ℕ) → 0 < sort_in t i → sort_in u i ≡ sort_in t i

has_kept : (t u : Tables) (n a : ℕ) → Keeps t u → Has t n a → Has u n a
has_kept t u n a f h = record { below = h.below; some = rw (f a h.some) h.some }

pub sorted-kept : (t u : Tables) (n k a b c s : ℕ) → Keeps t u → Sorted t n k a b c s → Sorted u n k a b c s
sorted-kept t u n k a b c s f h = record {
  one = λ q. has_kept t u n a f (h.one q);
  two = λ q. has_kept t u n b f (h.two q);
  three = λ q. has_kept t u n c f (h.three q);
  gives = λ x y z fx fy fz.
      h.gives x y z (λ q. fx q ∙ f a (h.one q).some) (λ q. fy q ∙ f b (h.two q).some) (λ q. fz q ∙ f c (h.three q).some);
  some = h.some;
  kind = h.kind;
  most = h.most;
  small-a = h.small-a;
  small_b = h.small_b;
  small-c = h.small-c;
}

-- its sort is one
sorted-small : {t : Tables} {n k a b c s : ℕ} → Sorted t n k a b c s → s ≤ 3904
sorted-small {t} {n} {k} {a} {b} {c} {s} r =
    good-small s (rw (r.gives (sort_in t a) (sort_in t b) (sort_in t c) (λ _. refl) (λ _. refl) (λ _. refl)) at (row-good k a b c (sort_in t a) (sort_in t b) (sort_in t c)))

-- a node whose row stays is still one
node_kept : (t u : Tables) (i : ℕ) → Keeps t u → Stays t u i → Node t i → Node u i
node_kept t u i f r h = record {
  inside = h.inside;
  row = rw (r.kind, r.first, r.second, r.third, r.sort) (sorted-kept t u i _ _ _ _ _ f h.row);
}

-- a node is added, whose sort is new or what its number was obliged to
module _ (t u : Tables) (n k a b c s : ℕ) (was : kind_in t n ≡ 0) (free : 0 < sort_in t n → sort_in t n ≡ s) (p : Put t u n k a b c s) where
  pub put_keeps : Keeps t u
  put_keeps i h = same? i n here (λ d. (p.others i d).sort)
    where
      here : i ≡ n → sort_in u i ≡ sort_in t i
      here e = rw e (p.here.sort ∙ sym (free (rw e at h)))

  pub add : (part top owed part' owed' : ℕ) → Nodes t part top owed → n < 65535 → Sorted t n k a b c s
      → ((i : ℕ) → kind_in u i ≡ 0 → 0 < sort_in u i → (i ≡ n → ⊥) → owed ≤ i → i < top → owed' ≤ i)
      → ((owed' ≡ 65535 → ⊥) → Owed u owed')
      → (part' ≡ 0 → (n < top) × (part ≡ 0))
      → Nodes u part' top owed'
  add part top owed part' owed' h l r g w q = record {
    long = p.long;
    nodes = λ i e.
        same? i n (λ d. rw d added)
        (λ d. node_kept t u i put_keeps (p.others i d) (h.nodes i (λ z. e ((p.others i d).kind ∙ z))));
    blank = λ i e. let o = p.others i (kind-some e) in let w = h.blank i (sym o.kind ∙ e) in record { first = o.first ∙ w.first; second = o.second ∙ w.second; third = o.third ∙ w.third };
    waits = λ i e v. waiting i e v (kind-some e);
    owes = w;
    early = λ z i e. same? i n (λ d. rw d (q z).0) (λ d. h.early (q z).1 i (λ y. e ((p.others i d).kind ∙ y)));
    lowest = put_lowest t u n k a b c s was r.kind (sorted-small r) h.long p h.lowest;
  }
    where
      added : Node u n
      added = record { inside = l; row = rw (p.here.kind, p.here.first, p.here.second, p.here.third, p.here.sort) (sorted-kept t u n k a b c s put_keeps r) }

      kind-some : {i : ℕ} → kind_in u i ≡ 0 → i ≡ n → ⊥
      kind-some {i} e d = let z : k ≡ 0 = sym p.here.kind ∙ rw d at e in let y = r.kind in omega arith

      waiting : (i : ℕ) → kind_in u i ≡ 0 → 0 < sort_in u i → (i ≡ n → ⊥) → Waits u top owed' i
      waiting i e v d =
          let o = p.others i d in
          let w = h.waits i (sym o.kind ∙ e) (rw o.sort at v) in
          record { from = g i e v d w.from w.below; below = w.below; inside = w.inside; float = rw o.sort w.float }

-- a number is obliged to be a float
pub owe : (t u : Tables) (m f part top owed top' : ℕ) → Obliges t u m f → Nodes t part top owed
    → (0 < sort_in t m → sort_in t m ≡ f) → is_float f ≡ true → 0 < f → kind_in t m ≡ 0 → m < top' → m < 65535 → top ≤ top'
    → Nodes u part top' (min owed m)
owe t u m f part top owed top' o h free fl some was lt ins hi = record {
  long = o.long;
  nodes = λ i e. node_kept t u i keeps (stays i (λ z. e (o.kind i ∙ z))) (h.nodes i (λ z. e (o.kind i ∙ z)));
  blank = λ i e. let w = h.blank i (sym (o.kind i) ∙ e) in record { first = o.first i ∙ w.first; second = o.second i ∙ w.second; third = o.third i ∙ w.third };
  waits = λ i e v. same? i m (λ d. rw d mine) (λ d. theirs i d e v);
  owes = λ z. owing (dec_lt owed m) z;
  early = λ z i e. let y = h.early z i (λ z. e (o.kind i ∙ z)) in omega arith;
  lowest = oblige-lowest t u m f was o h.lowest;
}
  where
    keeps : Keeps t u
    keeps i v = same? i m (λ e. rw e (o.here ∙ sym (free (rw e at v)))) (o.others i)

    stays : (i : ℕ) → Is t i → Stays t u i
    stays i e = record {
      kind = o.kind i;
      first = o.first i;
      second = o.second i;
      third = o.third i;
      sort = keeps i (h.nodes i e).row.some;
    }

    owing : Dec (owed < m) → (min owed m ≡ 65535 → ⊥) → Owed u (min owed m)
    owing (yes l) z =
        let e : min owed m ≡ owed = omega arith in
        let w = h.owes (λ y. z (e ∙ y)) in
        rw e (record { was = o.kind owed ∙ w.was; some = rw (keeps owed w.some) w.some })
    owing (no l) z = let e : min owed m ≡ m = omega arith in rw e (record { was = o.kind m ∙ was; some = rw o.here some })

    mine : Waits u top' (min owed m) m
    mine = record { from = omega arith; below = lt; inside = ins; float = rw o.here fl }

    theirs : (i : ℕ) → (i ≡ m → ⊥) → kind_in u i ≡ 0 → 0 < sort_in u i → Waits u top' (min owed m) i
    theirs i d e v =
        let q = o.others i d in
        let w = h.waits i (sym (o.kind i) ∙ e) (rw q at v) in
        record { from = (let z = w.from in omega arith); below = (let z = w.below in omega arith); inside = w.inside; float = rw q w.float }

-- more numbers are behind the declared ones
pub widen : (t : Tables) (part top owed top' : ℕ) → top ≤ top' → Nodes t part top owed → Nodes t part top' owed
widen t part top owed top' l h = record {
  long = h.long;
  nodes = h.nodes;
  blank = h.blank;
  waits = λ i e v. let w = h.waits i e v in record { from = w.from; below = (let b = w.below in omega arith); inside = w.inside; float = w.float };
  owes = h.owes;
  early = λ z i e. let b = h.early z i e in omega arith;
  lowest = h.lowest;
}

-- another part begins
pub turn : (t : Tables) (part top owed part' : ℕ) → (part' ≡ 0 → part ≡ 0) → Nodes t part top owed → Nodes t part' top owed
turn t part top owed part' q h = record { long = h.long; nodes = h.nodes; blank = h.blank; waits = h.waits; owes = h.owes; early = λ z. h.early (q z); lowest = h.lowest }
