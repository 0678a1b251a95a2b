-- By sort, the lowest number that has it: some node below n has the sort s exactly if the table says so.
use Rattle.std.specs.Prelude.{◌≡◌, true, List, ℕ, ◌≤◌, ◌<◌, min, get_or}
use Rattle.std.proofs.Common.{sym, ap, ◌∙◌, arith, ltb-true, lt-ltb, get_or-set_same, get_or-set_other}
use Rattle.std.proofs.Math.Decide.{dec_lt}
use Rattle.smtgrammar.specs.State.{limit, Tables}
use Rattle.smtgrammar.specs.Present.{below}
use Rattle.smtsound.specs.Tables.{kind_in, sort_in, Long, Put, Obliges, Is, same?}

-- node i is there and has the sort s
pub record Sort (t : Tables) (s i : ℕ) : Type 0 where
  pub is : Is t i
  pub sort : sort_in t i ≡ s

pub record Lowest (t : Tables) : Type 0 where
  pub has : (s : ℕ) → get_or t.lowest s limit < limit → Sort t s (get_or t.lowest s limit)
  pub most : (i : ℕ) → Is t i → get_or t.lowest (sort_in t i) limit ≤ i

-- a node below n of the sort s
pub record Below (t : Tables) (s n : ℕ) : Type 0 where
  pub at : ℕ
  pub under : at < n
  pub is : Sort t s at

pub below-some : (t : Tables) (s n : ℕ) → Lowest t → n ≤ limit → below t.lowest s n ≡ true → Below t s n
below-some t s n h l e =
    let b = ltb-true (get_or t.lowest s limit) n e in
    record { at = get_or t.lowest s limit; under = b; is = h.has s (omega arith) }

pub some_below : (t : Tables) (s n : ℕ) → Lowest t → Below t s n → below t.lowest s n ≡ true
some_below t s n h b =
    let m = rw b.is.sort at (h.most b.at b.is.is) in
    lt-ltb (get_or t.lowest s limit) n (let u = b.under in omega arith)

-- a node is added
module _ (t u : Tables) (n k a b c s : ℕ) (was : kind_in t n ≡ 0) (some : 0 < k) (good : s ≤ 3904) (g : Long t) (p : Put t u n k a b c s) (h : Lowest t) where
  -- the new entry, and the others
  here : get_or u.lowest s limit ≡ min (get_or t.lowest s limit) n
  here = ap (λ (l : List ℕ). get_or l s limit) p.low ∙ get_or-set_same t.lowest s _ limit (let e = g.lowest in omega arith)

  there : (x : ℕ) → (x ≡ s → ⊥) → get_or u.lowest x limit ≡ get_or t.lowest x limit
  there x d = ap (λ (l : List ℕ). get_or l x limit) p.low ∙ get_or-set_other t.lowest s x _ limit d

  -- nodes stay
  stays : (x i : ℕ) → Sort t x i → Sort u x i
  stays x i w =
      let o = p.others i (λ e. w.is (rw e was)) in
      record { is = λ z. w.is (sym o.kind ∙ z); sort = o.sort ∙ w.sort }

  new : Sort u s n
  new = record { is = λ z. let y = sym p.here.kind ∙ z in omega arith; sort = p.here.sort }

  pub put_lowest : Lowest u
  put_lowest = record {
    has = λ x l. same? x s (λ e. rw e (mine (rw e at l))) (λ d. rw (there x d) (stays x _ (h.has x (rw (there x d) at l))));
    most = λ i d. same? i n (λ e. rw (e, p.here.sort, here) (omega arith)) (λ e. other i d e);
  }
    where
      mine : get_or u.lowest s limit < limit → Sort u s (get_or u.lowest s limit)
      mine l = rw here (go (dec_lt (get_or t.lowest s limit) n) (rw here at l))
        where
          go : Dec (get_or t.lowest s limit < n) → min (get_or t.lowest s limit) n < limit → Sort u s (min (get_or t.lowest s limit) n)
          go (yes e) l = let m : min (get_or t.lowest s limit) n ≡ get_or t.lowest s limit = omega arith in rw m (stays s _ (h.has s (omega arith)))
          go (no e) l = let m : min (get_or t.lowest s limit) n ≡ n = omega arith in rw m new

      other : (i : ℕ) → Is u i → (i ≡ n → ⊥) → get_or u.lowest (sort_in u i) limit ≤ i
      other i d e =
          let o = p.others i e in
          let m = h.most i (λ z. d (o.kind ∙ z)) in
          rw o.sort
          (same? (sort_in t i) s (λ z. let y = rw z at m in rw (z, here) (omega arith)) (λ z. rw (there (sort_in t i) z) m))

-- a number is obliged
pub oblige-lowest : (t u : Tables) (m f : ℕ) → kind_in t m ≡ 0 → Obliges t u m f → Lowest t → Lowest u
oblige-lowest t u m f was o h = record {
  has = λ s l. rw (low s) (stays s _ (h.has s (rw (low s) at l)));
  most = λ i d. let e : Is t i = λ z. d (o.kind i ∙ z) in rw (o.others i (λ z. e (rw z was)), low (sort_in t i)) (h.most i e);
}
  where
    low : (s : ℕ) → get_or u.lowest s limit ≡ get_or t.lowest s limit
    low s = ap (λ (l : List ℕ). get_or l s limit) o.low

    stays : (s i : ℕ) → Sort t s i → Sort u s i
    stays s i w = record { is = λ z. w.is (sym (o.kind i) ∙ z); sort = o.others i (λ z. w.is (rw z was)) ∙ w.sort }
