-- The count of a state is the number of nodes that are there.
use Rattle.std.specs.Prelude.{◌≡◌, refl, Bool, true, ◌&&◌, List, leb, ltb, eqb, length, get_or, replicate}
use Rattle.std.proofs.Common.{sym, ◌∙◌, arith, eq-eqb, ne_eqb, get_or-set_same, get_or-set_other}
use Rattle.std.proofs.Math.Bool.{false, cond}
use Prim.Native.Nat.{ℕ, zero, suc, ◌+◌, ◌≤◌, ◌<◌}
use Rattle.sorts.specs.Sorts.{is_float}
use Rattle.needs.specs.Needed.{arity}
use Rattle.smtgrammar.specs.State.{Tables, State, start}
use Rattle.smtgrammar.specs.Rows.{there, rank_at}
use Rattle.smtgrammar.specs.Next.{entered, obliged, declared, defined, asserted, termed, kind_of, second_field, third_field, operand₀, operand₁, word, opened, digit, begun, numeral, next_at}
use Rattle.smtgrammar.specs.declared.Place.{Place}
use Rattle.smtgrammar.specs.declared.Line.{Line}
use Rattle.viable.specs.Runs.{Runs, end, on}
use Rattle.smtgrammar.specs.Grammar.{Token, done, Reads}
use Rattle.smtsound.specs.Steps.{kept_on, sound-start}
use Rattle.smtsound.specs.Tables.{kind_in, Is, same?}
use Rattle.smtsound.specs.Nodes.{Nodes}
use Rattle.smtsound.specs.Lines.{Sound, Lined, at0, at1, at2, at3, at4, at5, at6, at7, at8, at9, at10, at11, at12, at13, at14, at15, Declares, Defines, Numbered, Worded, Kinded, Paired}

abbrev pub Counted : State → Type 0
Counted σ = σ.place.count ≡ rank_at σ.tables 65535

-- a node that is there, and one that is not
there-is : (t : Tables) (i : ℕ) → Is t i → there t i ≡ true
there-is t i h = rw (ne_eqb (kind_in t i) 0 h)

there-not : (t : Tables) (i : ℕ) → kind_in t i ≡ 0 → there t i ≡ false
there-not t i h = rw (eq-eqb (kind_in t i) 0 h)

-- no more than there are numbers
pub rank_most : (t : Tables) (n : ℕ) → rank_at t n ≤ n
unfolding rank_at
rank_most t zero = omega arith
rank_most t (suc n) = go (there t n) (rank_most t n)
  where
    go : (b : Bool) → rank_at t n ≤ n → rank_at t n + cond b 1 0 ≤ suc n
    go true h = omega arith
    go false h = omega arith

pub same_rank : (t u : Tables) (n : ℕ) → ((i : ℕ) → i < n → kind_in u i ≡ kind_in t i) → rank_at u n ≡ rank_at t n
unfolding rank_at
same_rank t u zero f = refl
same_rank t u (suc n) f = rw (same_rank t u n (λ i h. f i (omega arith)), f n (omega arith))

-- one node more
module _ (t u : Tables) (m : ℕ) (was : kind_in t m ≡ 0) (is : Is u m) (others : (i : ℕ) → (i ≡ m → ⊥) → kind_in u i ≡ kind_in t i) where
  one_more : (n : ℕ) → m < n → rank_at u n ≡ rank_at t n + 1
  unfolding rank_at
  one_more zero h = absurd (omega arith)
  one_more (suc n) h = same? n m (λ e. here e) (λ d. behind d (one_more n (omega arith)))
    where
      here : n ≡ m → rank_at u n + cond (there u n) 1 0 ≡ rank_at t n + cond (there t n) 1 0 + 1
      here e =
          let a = same_rank t u n (λ i l. others i (λ z. omega arith)) in
          rw (e, there-is u m is, there-not t m was) (let b = rw e at a in omega arith)

      behind : (n ≡ m → ⊥) → rank_at u n ≡ rank_at t n + 1 → rank_at u n + cond (there u n) 1 0 ≡ rank_at t n + cond (there t n) 1 0 + 1
      behind d a = rw (others n d) (omega arith)

obliged-kinds : (b : Bool) (m s : ℕ) (t : Tables) → (obliged b m s t).kinds ≡ t.kinds
unfolding obliged
obliged-kinds true m s t = refl
obliged-kinds false m s t = refl

-- a row for a number that was not there
entered-more : (t : Tables) (w : Bool) (m f n k a b c s : ℕ) → length t.kinds ≡ 65536 → n < 65535 → kind_in t n ≡ 0 → (k ≡ 0 → ⊥)
    → rank_at (entered (obliged w m f t) n k a b c s) 65535 ≡ rank_at t 65535 + 1
unfolding entered
entered-more t w m f n k a b c s long h was some =
    one_more t (entered (obliged w m f t) n k a b c s) n was
    (λ e. some (sym (rw (obliged-kinds w m f t) (get_or-set_same t.kinds n k 0 (omega arith))) ∙ e))
    (λ i d. rw (obliged-kinds w m f t) (get_or-set_other t.kinds n i k 0 d))
    65535 h

either : (b : Bool) (σ τ : State) → Counted σ → Counted τ → Counted (cond b σ τ)
either true σ τ h k = h
either false σ τ h k = k

kind-some : (b : Bool) (k : ℕ) → (k ≡ 0 → ⊥) → cond b 29 k ≡ 0 → ⊥
kind-some true k h e = omega arith
kind-some false k h e = h e

-- no kind of a line that ends is 0
numbered-some : {t : Tables} {n k a : ℕ} → Numbered t n k a → k ≡ 0 → ⊥
numbered-some (Numbered.named l h s) e = omega arith
numbered-some Numbered.fsw e = omega arith
numbered-some (Numbered.flag l) e = omega arith
numbered-some (Numbered.reads l w) e = omega arith

worded-some : {k s : ℕ} → Worded k s → k ≡ 0 → ⊥
worded-some (Worded.equal w) e = omega arith
worded-some (Worded.sum l h w) e = omega arith
worded-some (Worded.root l h w) e = omega arith
worded-some (Worded.pattern w) e = omega arith
worded-some (Worded.whole w) e = omega arith

kinded-some : {k s r : ℕ} → Kinded k s r → k ≡ 0 → ⊥
kinded-some (Kinded.mask l h w) e = omega arith
kinded-some (Kinded.both l h) e = omega arith
kinded-some Kinded.negation e = omega arith
kinded-some (Kinded.choice w) e = omega arith
kinded-some (Kinded.extract w l h) e = omega arith
kinded-some (Kinded.join w) e = omega arith
kinded-some (Kinded.sum l h w r) e = omega arith
kinded-some (Kinded.compare l h) e = omega arith
kinded-some Kinded.nan e = omega arith
kinded-some (Kinded.root l h w r) e = omega arith
kinded-some (Kinded.whole w r) e = omega arith
kinded-some (Kinded.convert w r) e = omega arith

paired-some : {k s r x : ℕ} → Paired k s r x → k ≡ 0 → ⊥
paired-some (Paired.mask l h w) e = omega arith
paired-some (Paired.equal w) e = omega arith
paired-some (Paired.both l h) e = omega arith
paired-some (Paired.choice w) e = omega arith
paired-some (Paired.join w x l) e = omega arith
paired-some (Paired.sum l h w r) e = omega arith
paired-some (Paired.compare l h w) e = omega arith

module _ (t : Tables) (p : Place) (h : Nodes t p.part p.top p.owed) (is : p.count ≡ rank_at t 65535) where
  free : (n : ℕ) → Declares p n → kind_in t n ≡ 0
  free n d = same? (kind_in t n) 0 (λ e. e) (λ z. absurd (let a = h.early d.part n z in let b = d.over in omega arith))

  declares : (l : Line) (w : ℕ) → Declares p l.node → (l.kind ≡ 0 → ⊥) → Counted (declared t p l w)
  unfolding declared
  declares l w d k = rw is (sym (entered-more t _ _ _ l.node l.kind _ _ _ _ h.long.kinds d.inside (free l.node d) k))

  defines : (l : Line) (q k a b c : ℕ) → Defines t p l.node q → (k ≡ 0 → ⊥) → Counted (defined t p l k a b c)
  unfolding defined obliged
  defines l q k a b c d z = rw is (sym (entered-more t false 0 0 l.node k a b c l.sort h.long.kinds d.inside d.was z))

  terms : (l : Line) (q a b c : ℕ) → Defines t p l.node q → (l.kind ≡ 0 → ⊥) → Counted (termed t p l a b c)
  unfolding termed
  terms l q a b c d z =
      defines l q (kind_of t p l a) a (second_field t p l b) (third_field t p l c) d
      (kind-some (eqb l.kind 28 && is_float (get_or t.sorts a 0)) l.kind z)

  firsts : (l : Line) (q i : ℕ) → Defines t p l.node q → (l.kind ≡ 0 → ⊥) → Counted (operand₀ t p l i)
  unfolding operand₀
  firsts l q i d z = either (leb 2 (arity l.kind)) _ _ is (terms l q i 0 0 d z)

  seconds : (l : Line) (q i : ℕ) → Defines t p l.node q → (l.kind ≡ 0 → ⊥) → Counted (operand₁ t p l i)
  unfolding operand₁
  seconds l q i d z = either (eqb l.kind 13) _ _ is (terms l q l.a i 0 d z)

  words : (l : Line) (v : ℕ) → Counted (word t p l v)
  unfolding word
  words l v = either (eqb v 0) _ _ is is

  opens : (l : Line) (k : ℕ) → Counted (opened t p l k)
  unfolding opened
  opens l k = either (eqb k 6) _ _ is is

  digits : (l : Line) (q v : ℕ) → Defines t p l.node q → Counted (digit t p l v)
  unfolding digit
  digits l q v d = either (eqb l.left 1) _ _ (defines l q 6 _ _ _ d (λ e. omega arith)) is

  numerals : (l : Line) (v : ℕ) → Counted (numeral t p l v)
  unfolding numeral
  numerals l v = either (eqb v 10) _ _ is is

  step : (l : Line) (v : ℕ) → Lined t p l → Counted (next_at t p l v)
  unfolding next_at begun asserted
  step l v at0 = is
  step l v (at1 q) = is
  step l v (at2 d) = is
  step l v (at3 d k) = is
  step l v (at4 d lo hi small zeros) = numerals _ v
  step l v (at5 d k) = declares _ v d (numbered-some k)
  step l v (at6 q) = is
  step l v (at7 d) = is
  step l v (at8 d f) = opens _ v
  step l v (at9 d f w) = either (ltb v 65536) _ _ (firsts _ _ v d (worded-some w)) (words _ _)
  step l v (at10 d f w) = firsts _ _ v d (kinded-some w)
  step l v (at11 d f u g w) = seconds _ _ v d (paired-some w)
  step l v (at12 d f u w i j k) = terms _ _ _ _ v d (λ e. omega arith)
  step l v (at13 d f i) = is
  step l v (at14 m d f i c z k) = digits _ _ v d
  step l v (at15 q) = is

pub counted_next : (σ : State) (v : ℕ) → Sound σ → Counted σ → Counted (next_at σ.tables σ.place σ.line v)
counted_next σ v s c = step σ.tables σ.place s.nodes c σ.line v s.lined

-- nothing is there at first
blank : (t : Tables) (n : ℕ) → ((i : ℕ) → kind_in t i ≡ 0) → rank_at t n ≡ 0
unfolding rank_at
blank t zero f = refl
blank t (suc n) f = rw (blank t n f, there-not t n (f n))

pub zeros : (n i : ℕ) → get_or {A = ℕ} (replicate n 0) i 0 ≡ 0
zeros zero i = refl
zeros (suc n) zero = refl
zeros (suc n) (suc i) = zeros n i

pub counted_start : Counted start
counted_start = sym (blank start.tables 65535 (zeros 65536))

-- .. and so at the end of each run
through : (σ ω : State) (x : List ℕ) → Sound σ → Counted σ → Runs Token done σ x ω → Counted ω
through σ ω x s c (end d) = c
through σ ω x s c (on l u q m r) =
    through _ ω u (kept_on σ _ l s m) (rw m.to (counted_next σ m.value s c)) r

pub counted-reads : (x : List ℕ) (ω : State) → Reads x ω → ω.place.count ≡ rank_at ω.tables 65535
counted-reads x ω = through start ω x sound-start counted_start
