-- THE FIRST THEOREM: what a run leaves is a list that passes, in which what a marked node needs is marked.
use Rattle.std.specs.Prelude.{◌≡◌, refl, Bool, false, cond, ◌&&◌, leb, eqb, Ok}
use Rattle.std.proofs.Common.{sym, ◌∙◌, add-zero, eqb-true, leb-true, ne_eqb}
use Rattle.std.proofs.Math.Path.{ap}
use Rattle.std.proofs.Math.Bool.{true}
use mathlib.Core.List.{List, [], ◌∷◌, ◌++◌}
use Prim.Native.Nat.{ℕ, zero, suc, ◌+◌, ◌*◌, ◌/◌, ◌%◌, ◌^◌, ◌≤◌, ◌<◌}
use native.Mathlib.Omega.{arith}
use Rattle.std.proofs.Math.Decide.{dec_lt}
use Rattle.std.proofs.lemmas.Bool.{not-false}
use Rattle.std.proofs.Math.ListN.{get_or, get_or-append, get_or-eq_default}
use Rattle.std.proofs.Math.Seq.{get_or_at}
use Rattle.words.specs.Tests.{and_l, and_r}
use Rattle.lists.specs.Rows.{room_of}
use Rattle.sorts.specs.Sorts.{sort_row}
use Rattle.sorts.specs.Lists.{row_sort, sorts}
use Rattle.sorts.specs.Check.{check_of}
use Rattle.sorts.specs.Laws.{length-sorts, sorted-passes}
use Rattle.needs.specs.Needed.{arity, Operand}
use Rattle.needs.specs.Laws.{arity-most}
use Rattle.smttext.specs.Subset.{Kept}
use Rattle.viable.specs.Grammar.{clash}
use Rattle.viable.specs.Runs.{Runs, end, on}
use Rattle.smtgrammar.specs.State.{limit, Tables, State, start}
use Rattle.smtgrammar.specs.Grammar.{Token, done, Reads}
use Rattle.smtgrammar.specs.Rows.{there}
use Rattle.smtsound.specs.Tables.{kind_in, first_in, second_in, third_in, sort_in, Row, Is, same?}
use Rattle.smtsound.specs.Nodes.{Has, Nodes}
use Rattle.smtsound.specs.Lines.{Some}
use Rattle.smtsound.specs.Steps.{kept-through, sound-start}
use Rattle.smtsound.specs.Lists.{row_of, list_of, marks_of, long-list, row_at, mark-at}

pub record Built (ω : State) : Type 0 where
  pub passed : check_of (list_of ω.tables) 65535 ≡ Ok tt
  pub kept : Kept (list_of ω.tables) (marks_of ω.tables) 65535
  pub words : (j : ℕ) → get_or (list_of ω.tables) j 0 < 2 ^ 64
  pub sorted : (i : ℕ) → there ω.tables i ≡ true → get_or (sorts (list_of ω.tables) 65535) i 0 ≡ get_or ω.tables.sorts i 0
  pub inside : (i : ℕ) → there ω.tables i ≡ true → i < 65535
  pub absent : (i : ℕ) → there ω.tables i ≡ false → Row ω.tables i 0 0 0 0 0

-- the sort of row i
abbrev sort_of : Tables → ℕ → ℕ
sort_of t i = cond (there t i) (sort_in t i) 1

is-there : (t : Tables) (i : ℕ) → there t i ≡ true → Is t i
is-there t i e z = clash (rw z at e)

there-is : (t : Tables) (i : ℕ) → Is t i → there t i ≡ true
there-is t i d = rw (ne_eqb (kind_in t i) 0 d)

-- a node is there or not
by-there : (t : Tables) (i : ℕ) {P : Type 0} → (there t i ≡ true → Is t i → P) → (there t i ≡ false → P) → P
by-there t i {P} f g = go (there t i) refl
  where
    go : (x : Bool) → there t i ≡ x → P
    go true e = f e (is-there t i e)
    go false e = g e

module _ (t : Tables) (part top : ℕ) (h : Nodes t part top limit) where
  -- nothing is owed
  full : (i : ℕ) → i < limit → 0 < sort_in t i → Is t i
  full i l s z = let w = (h.waits i z s).from in omega arith

  operand : (n a : ℕ) → n < limit → Has t n a → sort_of t a ≡ sort_in t a
  operand n a l u = rw (there-is t a (full a (let b = u.below in omega arith) u.some))

  -- the sort of row n, from those before it
  row-sort : (n : ℕ) (l : List ℕ) → n < limit → ((i : ℕ) → i < n → get_or l i 0 ≡ sort_of t i) → row_sort (list_of t) n l ≡ sort_of t n
  unfolding row_sort row_of sort_row
  row-sort n l k f = by-there t n
      (λ e d.
      let r = (h.nodes n d).row in
      rw (zeroth, row_at t n 1 k (omega arith), row_at t n 2 k (omega arith), row_at t n 3 k (omega arith), e)
      (r.gives _ _ _ (λ q. at (first_in t n) (r.one q)) (λ q. at (second_in t n) (r.two q)) (λ q. at (third_in t n) (r.three q))))
      (λ e. rw (zeroth, row_at t n 1 k (omega arith), row_at t n 2 k (omega arith), row_at t n 3 k (omega arith), e))
    where
      zeroth : get_or (list_of t) (4 * n) 0 ≡ get_or (row_of t n) 0 0
      zeroth = ap (λ (m : ℕ). get_or (list_of t) m 0) (sym (add-zero (4 * n))) ∙ row_at t n 0 k (omega arith)

      at : (a : ℕ) → Has t n a → get_or l a 0 ≡ sort_in t a
      at a u = f a u.below ∙ operand n a k u

  -- the sorts of the first n rows
  sorts-to : (n i : ℕ) → n ≤ limit → i < n → get_or (sorts (list_of t) n) i 0 ≡ sort_of t i
  unfolding sorts
  sorts-to zero i k l = absurd (omega arith)
  sorts-to (suc n) i k l = go (λ i. sorts-to n i (omega arith))
    where
      go : ((i : ℕ) → i < n → get_or (sorts (list_of t) n) i 0 ≡ sort_of t i)
          → get_or (sorts (list_of t) n ++ (row_sort (list_of t) n (sorts (list_of t) n) ∷ [])) i 0 ≡ sort_of t i
      go f =
          same? i n
          (λ e. rw (e, get_or_at (sorts (list_of t) n) (row_sort (list_of t) n (sorts (list_of t) n)) [] 0 n (length-sorts (list_of t) n)) (row-sort n _ (omega arith) f))
          (λ d. get_or-append (sorts (list_of t) n) _ 0 i (let e = length-sorts (list_of t) n in omega arith) ∙ f i (omega arith))

  -- no sort is missing
  sort-some : (i : ℕ) → sort_of t i ≡ 0 → ⊥
  sort-some i z = by-there t i (λ e d. let r = (h.nodes i d).row.some in let y = rw e at z in omega arith) (λ e. let y = rw e at z in omega arith)

  passes : check_of (list_of t) 65535 ≡ Ok tt
  unfolding check_of room_of
  passes =
      rw (long-list t)
      (sorted-passes (list_of t) 65535 (λ i l z. sort-some i (sym (row-sort i _ l (λ j m. sorts-to i j (omega arith) m)) ∙ z)))

  -- each word of a row is one
  word : (i j : ℕ) → i < limit → j < 4 → get_or (row_of t i) j 0 < 2 ^ 64
  unfolding row_of
  word i j l m = by-there t i
      (λ e d. let r = (h.nodes i d).row in some e j (let y = r.most in omega arith) r.small-a r.small_b r.small-c)
      (λ e. none e j)
    where
      some : there t i ≡ true → (j : ℕ) → kind_in t i < 2 ^ 64 → first_in t i < 2 ^ 64 → second_in t i < 2 ^ 64 → third_in t i < 2 ^ 64 → get_or (row_of t i) j 0 < 2 ^ 64
      some e zero k a b c = rw e k
      some e (suc zero) k a b c = rw e a
      some e (suc (suc zero)) k a b c = rw e b
      some e (suc (suc (suc zero))) k a b c = rw e c
      some e (suc (suc (suc (suc zero)))) k a b c = omega arith
      some e (suc (suc (suc (suc (suc j))))) k a b c = omega arith

      none : there t i ≡ false → (j : ℕ) → get_or (row_of t i) j 0 < 2 ^ 64
      none e zero = rw e (omega arith)
      none e (suc zero) = rw e (omega arith)
      none e (suc (suc zero)) = rw e (omega arith)
      none e (suc (suc (suc zero))) = rw e (omega arith)
      none e (suc (suc (suc (suc zero)))) = omega arith
      none e (suc (suc (suc (suc (suc j))))) = omega arith

  words : (j : ℕ) → get_or (list_of t) j 0 < 2 ^ 64
  words j = go (dec_lt j (4 * limit))
    where
      go : Dec (j < 4 * limit) → get_or (list_of t) j 0 < 2 ^ 64
      go (yes l) =
          let e : j ≡ 4 * (j / 4) + j % 4 = omega arith in
          rw (e, row_at t (j / 4) (j % 4) (omega arith) (omega arith)) (word (j / 4) (j % 4) (omega arith) (omega arith))
      go (no d) = rw (get_or-eq_default (list_of t) 0 {n = j} (let e = long-list t in omega arith)) (omega arith)

  -- what is marked is there, and so are its operands
  mark-is : (i : ℕ) → i < limit → Is t i → get_or (marks_of t) i 0 ≡ 1
  mark-is i l d = rw (mark-at t i l, there-is t i d)

  is-mark : (i : ℕ) → i < limit → get_or (marks_of t) i 0 ≡ 1 → Is t i
  is-mark i l e = by-there t i (λ _ d. d) (λ f. absurd (let z = sym (mark-at t i l) ∙ e in let y = rw f at z in omega arith))

  fields : (i j : ℕ) → Is t i → j < arity (kind_in t i) → Has t i (get_or (row_of t i) (suc j) 0)
  unfolding row_of
  fields i zero d k = rw (there-is t i d) ((h.nodes i d).row.one (omega arith))
  fields i (suc zero) d k = rw (there-is t i d) ((h.nodes i d).row.two (omega arith))
  fields i (suc (suc zero)) d k = rw (there-is t i d) ((h.nodes i d).row.three (omega arith))
  fields i (suc (suc (suc j))) d k = absurd (omega (arith, arity-most (kind_in t i)))

  row-kind : (i : ℕ) → i < limit → Is t i → get_or (list_of t) (4 * i) 0 ≡ kind_in t i
  unfolding row_of
  row-kind i l d = ap (λ (m : ℕ). get_or (list_of t) m 0) (sym (add-zero (4 * i))) ∙ row_at t i 0 l (omega arith) ∙ rw (there-is t i d)

  marked : Some t → Kept (list_of t) (marks_of t) 65535
  marked s =
      let l = (h.nodes s.at s.is).inside in
      record { root = s.at; inside = l; marked = mark-is s.at l s.is; operands = operands }
    where
      operands : (i a : ℕ) → i < 65535 → get_or (marks_of t) i 0 ≡ 1 → Operand (list_of t) i a → get_or (marks_of t) a 0 ≡ 1
      operands i a l m o =
          let d = is-mark i l m in
          let k = rw (row-kind i l d) at o.has in
          let y : 4 * i + 1 + o.place ≡ 4 * i + suc o.place = omega arith in
          let e : a ≡ get_or (row_of t i) (suc o.place) 0 =
          o.is ∙ ap (λ (m : ℕ). get_or (list_of t) m 0) y ∙ row_at t i (suc o.place) l (let z = arity-most (kind_in t i) in omega arith) in
          let u = fields i o.place d k in
          let b : a < 65535 = (let w = o.earlier in omega arith) in
          mark-is a b (full a b (rw e u.some))

  -- nothing stands where no node is
  absent : (i : ℕ) → there t i ≡ false → Row t i 0 0 0 0 0
  absent i e =
      let z = eqb-true (kind_in t i) 0 (not-false (eqb (kind_in t i) 0) e) in
      let b = h.blank i z in
      record {
        kind = z;
        first = b.first;
        second = b.second;
        third = b.third;
        sort = same? (sort_in t i) 0 (λ q. q) (λ q. absurd (let w = h.waits i z (omega arith) in let f = w.from in let l = w.inside in omega arith));
      }

-- a run ends where it may
last : (σ ω : State) (x : List ℕ) → Runs Token done σ x ω → done ω ≡ true
last σ ω x (end d) = d
last σ ω x (on l u q m r) = last _ ω u r

pub built : (x : List ℕ) (ω : State) → Reads x ω → Built ω
built x ω r =
    let s = kept-through start ω x sound-start r in
    let d = last start ω x r in
    let c = leb-true 1 ω.place.count (and_r (eqb ω.line.stage 0) (leb 1 ω.place.count) (and_l _ (eqb ω.place.owed limit && eqb ω.place.due limit) d)) in
    let o = eqb-true ω.place.owed limit (and_l (eqb ω.place.owed limit) (eqb ω.place.due limit) (and_r (eqb ω.line.stage 0 && leb 1 ω.place.count) _ d)) in
    let h : Nodes ω.tables ω.place.part ω.place.top limit = rw o at s.nodes in
    let t = ω.tables in
    record {
      passed = passes t _ _ h;
      kept = marked t _ _ h (s.some c);
      words = words t _ _ h;
      sorted = λ i e. sorts-to t _ _ h 65535 i (omega arith) (h.nodes i (is-there t i e)).inside ∙ rw e;
      inside = λ i e. (h.nodes i (is-there t i e)).inside;
      absent = absent t _ _ h;
    }
