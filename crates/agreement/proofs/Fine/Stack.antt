-- The stack keeps its sorts: what is read is 79 bits wide, and what is written has to be
use Rattle.std.specs.Prelude.{◌≡◌, refl, Bool, true, false, cond, List, [], ◌∷◌, ◌++◌, ℕ, zero, suc, ◌+◌, ◌-◌, ◌≤◌, ◌<◌, leb, ltb, length, get_or, set, replicate}
use Rattle.std.proofs.Common.{◌∙◌, arith, add-zero, zero-add, add_comm, leb-true, leb-false, ltb-true, le-leb, lt-ltb, length-set, get_or-set_same, get_or-set_other}
use Rattle.std.proofs.Math.Decide.{dec_lt, ℕ_discrete}
use Rattle.lists.specs.Steps.{◌▸◌, gives}
use Rattle.lists.specs.Nodes.{node_of, fresh_of, input_counted}
use Rattle.lists.specs.Stack.{havoc_of, placing, grown, bottom_of, lowered, ensure_of, slot_of, kept, read_of, write_of, overflows, push_of, drop_top_of, pop_of, exchange_of}
use Rattle.lists.specs.declared.State.{State}
use Rattle.agreement.proofs.Fine.{Placed, ◌has◌, Known, Knows, Fine, next-at, next, either, by}
use Rattle.agreement.proofs.Fine.Nodes.{quiet, still, fresh-node}
use Rattle.agreement.proofs.Fine.Kinds.{input}

-- A list of zeros, entry by entry
zeros-at : (n i : ℕ) → get_or {A = ℕ} (replicate n 0) i 0 ≡ 0
zeros-at zero i = refl
zeros-at (suc n) zero = refl
zeros-at (suc n) (suc i) = zeros-at n i

-- No place is known any more
pub cleared : (Γ : List ℕ) (s : State) → s.nodes ≡ length Γ → s.inputs + s.temporaries ≤ s.nodes → Placed Γ (havoc_of s)
unfolding havoc_of
cleared Γ s e h =
    record { count = e; eight = refl; deep = omega arith; used = λ i k. absurd (none i k); unused = λ i k. zeros-at 8 i; counted = h }
  where
    none : (i : ℕ) → i < 0 → ⊥
    none i h = omega arith

pub havoc-placed : (Γ : List ℕ) (s : State) → Placed Γ s → Placed Γ (havoc_of s)
havoc-placed Γ s p = cleared Γ s p.count p.counted

-- A place that is set holds the node, and each other place that is used was used before
set-placed : (Γ : List ℕ) (s : State) (i v d : ℕ) → i < d → d ≤ 8 → s.depth ≤ d → ((j : ℕ) → j < d → (j ≡ i → ⊥) → j < s.depth)
    → get_or Γ v 0 ≡ 79 → Placed Γ s → Placed Γ (placing s (set s.slots i v) d)
set-placed Γ s i v d h l k f e p =
    record {
      count = p.count;
      eight = length-set s.slots i v ∙ p.eight;
      deep = l;
      used = λ j u. there j u (ℕ_discrete j i);
      unused = λ j u. get_or-set_other s.slots i j v 0 (λ z. omega arith) ∙ p.unused j (omega arith);
      counted = p.counted;
    }
  where
    there : (j : ℕ) → j < d → Dec (j ≡ i) → get_or Γ (get_or (set s.slots i v) j 0) 0 ≡ 79
    there j u (yes q) = rw (q, get_or-set_same s.slots i v 0 (omega (arith, p.eight))) e
    there j u (no q) = rw (get_or-set_other s.slots i j v 0 q) (p.used j (f j u q))

grown-placed : (Γ : List ℕ) (s : State) (v : ℕ) → get_or Γ v 0 ≡ 79 → Placed Γ s → Placed Γ (grown s v)
unfolding grown
grown-placed Γ s v e p = way (ltb s.depth 8) refl
  where
    way : (t : Bool) → ltb s.depth 8 ≡ t → Placed Γ (cond t (placing s (set s.slots s.depth v) (s.depth + 1)) s)
    way true q = let h = ltb-true s.depth 8 q in set-placed Γ s s.depth v (s.depth + 1) (omega arith) (omega arith) (omega arith) (λ j u z. omega arith) e p
    way false q = p

kept-placed : (Γ : List ℕ) (s : State) (i v : ℕ) → (i ≤ 7 → i < s.depth) → get_or Γ v 0 ≡ 79 → Placed Γ s → Placed Γ (kept s i v)
unfolding kept
kept-placed Γ s i v f e p = way (leb i 7) refl
  where
    way : (t : Bool) → leb i 7 ≡ t → Placed Γ (cond t (placing s (set s.slots i v) s.depth) s)
    way true q = set-placed Γ s i v s.depth (f (leb-true i 7 q)) p.deep (omega arith) (λ j u z. u) e p
    way false q = p

-- So many entries of a list, from entry k on
abbrev pub entries : ℕ → ℕ → List ℕ → List ℕ
entries k zero l = []
entries k (suc n) l = get_or l k 0 ∷ entries (k + 1) n l

pub entries_at : (k n : ℕ) (l t : List ℕ) (j : ℕ) → j < n → get_or (entries k n l ++ t) j 0 ≡ get_or l (k + j) 0
entries_at k zero l t j h = absurd (none h)
  where
    none : j < 0 → ⊥
    none h = omega arith
entries_at k (suc n) l t zero h = rw add-zero
entries_at k (suc n) l t (suc j) h =
    let e : k + suc j ≡ k + 1 + j = omega arith in
    rw e (entries_at (k + 1) n l t j (omega arith))

entries-past : (k n : ℕ) (l t : List ℕ) (j : ℕ) → n ≤ j → ((i : ℕ) → get_or t i 0 ≡ 0) → get_or (entries k n l ++ t) j 0 ≡ 0
entries-past k zero l t j h f = f j
entries-past k (suc n) l t zero h f = absurd (none h)
  where
    none : suc n ≤ 0 → ⊥
    none h = omega arith
entries-past k (suc n) l t (suc j) h f = entries-past (k + 1) n l t j (omega arith) f

-- A push moves each place one further down, a drop one further up
pub push-placed : (Γ : List ℕ) (s : State) (v : ℕ) → get_or Γ v 0 ≡ 79 → Placed Γ s → Placed Γ (push_of s v)
unfolding push_of overflows
push-placed Γ s v e p = way (leb 8 s.depth) refl
  where
    l : List ℕ
    l = s.slots

    next-used : (i : ℕ) → i < s.depth + 1 → s.depth < 8 → get_or Γ (get_or (v ∷ (entries 0 7 l ++ [])) i 0) 0 ≡ 79
    next-used zero h d = e
    next-used (suc i) h d = rw (entries_at 0 7 l [] i (omega arith), zero-add) (p.used i (omega arith))

    next-unused : (i : ℕ) → s.depth + 1 ≤ i → Dec (i < 8) → get_or (v ∷ (entries 0 7 l ++ [])) i 0 ≡ 0
    next-unused zero h d = absurd (none h)
      where
        none : s.depth + 1 ≤ 0 → ⊥
        none h = omega arith
    next-unused (suc i) h (yes d) = rw (entries_at 0 7 l [] i (omega arith), zero-add) (p.unused i (omega arith))
    next-unused (suc i) h (no d) = entries-past 0 7 l [] i (omega arith) (λ j. refl)

    way : (t : Bool) → leb 8 s.depth ≡ t → Placed Γ (cond t (havoc_of s) (placing s (v ∷ (entries 0 7 l ++ [])) (s.depth + 1)))
    way true q = havoc-placed Γ s p
    way false q =
        let d = leb-false 8 s.depth q in
        record {
          count = p.count;
          eight = refl;
          deep = omega arith;
          used = λ i h. next-used i h d;
          unused = λ i h. next-unused i h (dec_lt i 8);
          counted = p.counted;
        }

pub drop-placed : (Γ : List ℕ) (s : State) → Placed Γ s → Placed Γ (drop_top_of s)
unfolding drop_top_of
drop-placed Γ s p =
    record {
      count = p.count;
      eight = refl;
      deep = omega (arith, p.deep);
      used = λ i h. rw (entries_at 1 7 l (0 ∷ []) i (omega (arith, p.deep)), add_comm 1 i) (p.used (i + 1) (omega arith));
      unused = λ i h. next-unused i h (dec_lt i 7);
      counted = p.counted;
    }
  where
    l : List ℕ
    l = s.slots

    next-unused : (i : ℕ) → s.depth - 1 ≤ i → Dec (i < 7) → get_or (entries 1 7 l ++ (0 ∷ [])) i 0 ≡ 0
    next-unused i h (yes d) = rw (entries_at 1 7 l (0 ∷ []) i d) (p.unused (1 + i) (omega arith))
    next-unused i h (no d) = entries-past 1 7 l (0 ∷ []) i (omega arith) (zeros-at 1)

-- Inputs at the bottom: one, so many, those that are missing
bottom : (s : State) → Fine s [] 0 (bottom_of s)
unfolding bottom_of Known Knows
bottom s =
    next _ (fresh-node (input refl)) (λ t v. still 0 (0 ∷ []) (λ Γ p h. grown-placed Γ t v (h.0 (λ z. omega arith)) p))

lowered-fine : (k : ℕ) (s : State) → Fine s [] 0 (lowered k s)
unfolding lowered
lowered-fine zero s = still 0 [] (λ Γ p h. p)
lowered-fine (suc k) s = next _ (bottom s) (λ t v. by [] (lowered-fine k t))

ensure : (s : State) (i : ℕ) → Fine s [] 0 (ensure_of s i)
unfolding ensure_of
ensure s i = either (leb i 7) (lowered-fine (i + 1 - s.depth) s) (still 0 [] (λ Γ p h. p))

-- Each input makes the stack one deeper, up to eight places
bottom-deeper : (s : State) → s.depth < 8 → (bottom_of s).st.depth ≡ s.depth + 1
unfolding bottom_of fresh_of node_of input_counted grown gives ◌▸◌
bottom-deeper s h = rw (lt-ltb s.depth 8 h)

lowered-deeper : (k : ℕ) (s : State) → s.depth + k ≤ 8 → (lowered k s).st.depth ≡ s.depth + k
unfolding lowered gives ◌▸◌
lowered-deeper zero s h = rw add-zero
lowered-deeper (suc k) s h =
    let e = bottom-deeper s (omega arith) in
    lowered-deeper k (bottom_of s).st (omega arith) ∙ omega (arith, e)

ensured : (s : State) (i : ℕ) → i ≤ 7 → i < (ensure_of s i).st.depth
unfolding ensure_of lowered gives
ensured s i h = rw (le-leb i 7 h) (there (dec_lt i s.depth))
  where
    there : Dec (i < s.depth) → i < (lowered (i + 1 - s.depth) s).st.depth
    there (yes d) = let z : i + 1 - s.depth ≡ 0 = omega arith in rw z d
    there (no d) = omega (arith, lowered-deeper (i + 1 - s.depth) s (omega arith))

pub read : (s : State) (i : ℕ) → i ≤ 7 → Fine s [] 79 (read_of s i)
unfolding read_of slot_of Known
read s i h =
    next-at _ (ensure s i) (quiet [] (record { placed = λ Γ p k. p; node = λ Γ p k z. rw (le-leb i 7 h) (p.used i (ensured s i h)) }))

pub write : (s : State) (i v : ℕ) → Fine s (v has 79 ∷ []) 0 (write_of s i v)
unfolding write_of Known Knows
write s i v =
    next-at _ (by [] (ensure s i)) (still 0 (0 ∷ []) (λ Γ p k. kept-placed Γ _ i v (ensured s i) (k.0 (λ z. omega arith)) p))

-- The top dropped, with a node that is known
pub dropped : (s : State) (v σ : ℕ) → Fine s (v has σ ∷ []) σ (gives (drop_top_of s) v)
unfolding Knows
dropped s v σ = quiet (0 ∷ []) (record { placed = λ Γ p k. drop-placed Γ s p; node = λ Γ p k. k.0 })

pub pop : (s : State) → Fine s [] 79 (pop_of s)
unfolding pop_of
pop s = next _ (read s 0 (omega arith)) (λ s top. by (0 ∷ []) (dropped s top 79))

pub exchange : (s : State) (i : ℕ) → i ≤ 7 → Fine s [] 0 (exchange_of s i)
unfolding exchange_of
exchange s i h =
    next _ (read s 0 (omega arith)) (λ s top.
    next _ (by [] (read s i h)) (λ s other.
    next _ (by (1 ∷ []) (write s 0 other)) (λ s _.
    by (0 ∷ []) (write s i top))))
