-- SHORT COLUMNS: an entry that a column does not have is 0, so it stands for the long one with zeros behind, and the grammar sees no difference.
use Rattle.std.specs.Prelude.{◌≡◌, Bool, true, false, cond, List, [], ◌∷◌, ◌++◌, leb, ltb, eqb, get_or, set, replicate}
use Rattle.std.proofs.Math.Path.{refl, fun_ext}
use Rattle.std.proofs.Common.{append-nil, eqb-true, length-set}
use Prim.Native.Nat.{ℕ, zero, suc, ◌+◌, ◌-◌, ◌≤◌, ◌<◌}
use native.Mathlib.Omega.{arith}
use Rattle.std.proofs.Math.ListN.{length, get_or-eq_default}
use Rattle.std.proofs.lemmas.List.{length-replicate, replicate-append-replicate, set-append_left}
use Rattle.needs.specs.Needed.{arity}
use Rattle.smtgrammar.specs.State.{limit, Tables, State, empty}
use Rattle.smtgrammar.specs.Allowed.{format_of, line_ok, kind_ok, number_ok, digit_ok, width_ok, defined_ok, sort_ok, opening_ok, sort_taken, word_ok, first_ok, place_ok, ok_at}
use Rattle.smtgrammar.specs.Tokens.{node_name, asserted_text, text_at}
use Rattle.smtgrammar.specs.Next.{gap_from, owed_from, due_from, entered, obliged, declared, defined, asserted, termed, kind_of, second_field, third_field, operand₀, operand₁, word, opened, digit, begun, numeral, next_at}
use Rattle.smtgrammar.specs.Grammar.{Choice}
use Rattle.smtgrammar.specs.Rows.{rank_at, rows_below}
use Rattle.smtgrammar.specs.declared.Place.{Place}
use Rattle.smtgrammar.specs.declared.Line.{Line}
use Rattle.smtsound.specs.Tables.{same?}
use Rattle.smtsound.specs.Lines.{Lined, at0, at1, at2, at3, at4, at5, at6, at7, at8, at9, at10, at11, at12, at13, at14, at15}
use Rattle.smttokens.specs.Taken.{state}
use Rattle.smtreader.specs.Counted.{zeros, same_rank}
use Rattle.smtreader.specs.Inside.{Roomed}
use Rattle.smtreader.specs.Fits.{numbered-low}

-- a column with zeros behind it, up to an entry for each number
unfoldable pub pad : List ℕ → List ℕ
pad l = l ++ replicate (65536 - length l) 0

behind : (l : List ℕ) (m i : ℕ) → get_or (l ++ replicate m 0) i 0 ≡ get_or l i 0
behind [] m i = zeros m i
behind (x ∷ l) m zero = refl
behind (x ∷ l) m (suc i) = behind l m i

pub get-pad : (l : List ℕ) (i : ℕ) → get_or (pad l) i 0 ≡ get_or l i 0
unfolding pad
get-pad l i = behind l (65536 - length l) i

set-pad : (l : List ℕ) (n v : ℕ) → n < length l → set (pad l) n v ≡ pad (set l n v)
unfolding pad
set-pad l n v h = rw (length-set l n v) (set-append_left l (replicate (65536 - length l) 0) n v h)

zeros-pad : (n : ℕ) → n ≤ 65536 → pad (replicate n 0) ≡ replicate 65536 0
unfolding pad
zeros-pad n h =
    let e : n + (65536 - n) ≡ 65536 = omega arith in
    rw (length-replicate {A = ℕ} n 0, replicate-append-replicate {A = ℕ} n (65536 - n) 0, e)

-- the long columns that these ones stand for
abbrev pub padded : Tables → Tables
padded t = record { kinds = pad t.kinds; field_a = pad t.field_a; field_b = pad t.field_b; field_c = pad t.field_c; sorts = pad t.sorts; lowest = t.lowest }

-- nothing has been read, in columns of n entries
abbrev pub blank : ℕ → Tables
blank n = record { kinds = replicate n 0; field_a = replicate n 0; field_b = replicate n 0; field_c = replicate n 0; sorts = replicate n 0; lowest = replicate 3905 limit }

pub blank-padded : (n : ℕ) → n ≤ 65536 → padded (blank n) ≡ empty
blank-padded n h = rw (zeros-pad n h)

abbrev pub pad_state : State → State
pad_state σ = state (padded σ.tables) σ.place σ.line

-- the same choices
module _ (t : Tables) (p : Place) (l : Line) where
  ok-padded : (v : ℕ) → ok_at (padded t) p l v ≡ ok_at t p l v
  unfolding line_ok kind_ok number_ok digit_ok width_ok defined_ok sort_ok opening_ok sort_taken word_ok first_ok place_ok ok_at
  ok-padded v = simp get-pad

  text-padded : (v : ℕ) → text_at (padded t) p l v ≡ text_at t p l v
  unfolding node_name asserted_text text_at
  text-padded v = simp get-pad

  pub choice-padded : Choice (state (padded t) p l) ≡ Choice (state t p l)
  choice-padded = rw (fun_ext ok-padded, fun_ext text-padded)

-- the same places that are sought
gap-padded : (t : Tables) (i : ℕ) → gap_from (padded t) i ≡ gap_from t i
unfolding gap_from
gap-padded t i = simp get-pad

owed-padded : (t : Tables) (top i : ℕ) → owed_from (padded t) top i ≡ owed_from t top i
unfolding owed_from
owed-padded t top i = simp get-pad

due-padded : (t : Tables) (top i : ℕ) → due_from (padded t) top i ≡ due_from t top i
unfolding due_from
due-padded t top i = simp get-pad

-- a row goes where it has room
entered-padded : (t : Tables) (n k a b c s : ℕ) → Roomed t n → entered (padded t) n k a b c s ≡ padded (entered t n k a b c s)
unfolding entered
entered-padded t n k a b c s h =
    rw (
      set-pad t.kinds n k h.kinds,
      set-pad t.field_a n a h.firsts,
      set-pad t.field_b n b h.seconds,
      set-pad t.field_c n c h.thirds,
      set-pad t.sorts n s h.sorts,
    )

obliged-padded : (is : Bool) (m s : ℕ) (t : Tables) → (is ≡ true → m < length t.sorts) → obliged is m s (padded t) ≡ padded (obliged is m s t)
unfolding obliged
obliged-padded true m s t h = rw (set-pad t.sorts m s (h refl))
obliged-padded false m s t h = refl

obliged-roomed : (is : Bool) (m s n : ℕ) (t : Tables) → Roomed t n → Roomed (obliged is m s t) n
unfolding obliged
obliged-roomed true m s n t h =
    record {
      kinds = h.kinds;
      firsts = h.firsts;
      seconds = h.seconds;
      thirds = h.thirds;
      sorts = rw (length-set t.sorts m s) h.sorts;
      lowest = h.lowest;
    }
obliged-roomed false m s n t h = h

either : (b : Bool) (σ τ σ' τ' : State) → σ' ≡ pad_state σ → τ' ≡ pad_state τ → cond b σ' τ' ≡ pad_state (cond b σ τ)
either true σ τ σ' τ' h k = h
either false σ τ σ' τ' h k = k

-- the same step
module _ (t : Tables) (p : Place) where
  declared-padded : (l : Line) (w : ℕ) → Roomed t l.node → (l.kind ≡ 26 → l.a < l.node) → declared (padded t) p l w ≡ pad_state (declared t p l w)
  unfolding declared
  declared-padded l w h low =
      rw (
        obliged-padded (eqb l.kind 26) l.a (format_of w) t (λ e. let a = low (eqb-true l.kind 26 e) in let b = h.sorts in omega arith),
        entered-padded (obliged (eqb l.kind 26) l.a (format_of w) t) l.node l.kind l.a (cond (leb l.kind 3) w 0) 0 w
            (obliged-roomed (eqb l.kind 26) l.a (format_of w) l.node t h),
      )

  defined-padded : (l : Line) (k a b c : ℕ) → Roomed t l.node → defined (padded t) p l k a b c ≡ pad_state (defined t p l k a b c)
  unfolding defined
  defined-padded l k a b c h = rw (entered-padded t l.node k a b c l.sort h, owed-padded (entered t l.node k a b c l.sort) p.top (l.node + 1))

  termed-padded : (l : Line) (a b c : ℕ) → Roomed t l.node → termed (padded t) p l a b c ≡ pad_state (termed t p l a b c)
  unfolding termed
  termed-padded l a b c h = rw (get-pad t.sorts a) (defined-padded l (kind_of t p l a) a (second_field t p l b) (third_field t p l c) h)

  first-padded : (l : Line) (i : ℕ) → Roomed t l.node → operand₀ (padded t) p l i ≡ pad_state (operand₀ t p l i)
  unfolding operand₀
  first-padded l i h = either (leb 2 (arity l.kind)) _ _ _ _ refl (termed-padded l i 0 0 h)

  second-padded : (l : Line) (i : ℕ) → Roomed t l.node → operand₁ (padded t) p l i ≡ pad_state (operand₁ t p l i)
  unfolding operand₁
  second-padded l i h = either (eqb l.kind 13) _ _ _ _ refl (termed-padded l l.a i 0 h)

  word-padded : (l : Line) (v : ℕ) → word (padded t) p l v ≡ pad_state (word t p l v)
  unfolding word
  word-padded l v = either (eqb v 0) _ _ _ _ refl refl

  opened-padded : (l : Line) (k : ℕ) → opened (padded t) p l k ≡ pad_state (opened t p l k)
  unfolding opened
  opened-padded l k = either (eqb k 6) _ _ _ _ refl refl

  digit-padded : (l : Line) (d : ℕ) → Roomed t l.node → digit (padded t) p l d ≡ pad_state (digit t p l d)
  unfolding digit
  digit-padded l d h = either (eqb l.left 1) _ _ _ _ (defined-padded l 6 _ _ _ h) refl

  numeral-padded : (l : Line) (d : ℕ) → numeral (padded t) p l d ≡ pad_state (numeral t p l d)
  unfolding numeral
  numeral-padded l d = either (eqb d 10) _ _ _ _ refl refl

  asserted-padded : (l : Line) → asserted (padded t) p l ≡ pad_state (asserted t p l)
  unfolding asserted
  asserted-padded l = rw (due-padded t p.top (p.due + 1))

  pub next-padded : {u : Tables} (l : Line) (v : ℕ) → Lined u p l → Roomed t l.node → next_at (padded t) p l v ≡ pad_state (next_at t p l v)
  unfolding next_at begun
  next-padded l v at0 h = refl
  next-padded l v (at1 q) h = refl
  next-padded l v (at2 d) h = refl
  next-padded l v (at3 d k) h = refl
  next-padded l v (at4 d lo hi small zeros) h = numeral-padded _ v
  next-padded l v (at5 d k) h = declared-padded _ v h (numbered-low k)
  next-padded l v (at6 q) h = rw (gap-padded t (v + 1))
  next-padded l v (at7 d) h = refl
  next-padded l v (at8 d f) h = opened-padded _ v
  next-padded l v (at9 d f w) h = either (ltb v 65536) _ _ _ _ (first-padded _ v h) (word-padded _ _)
  next-padded l v (at10 d f w) h = first-padded _ v h
  next-padded l v (at11 d f u g w) h = second-padded _ v h
  next-padded l v (at12 d f u w i j k) h = termed-padded _ _ _ v h
  next-padded l v (at13 d f i) h = refl
  next-padded l v (at14 m d f i c z k) h = digit-padded _ v h
  next-padded l v (at15 q) h = asserted-padded _

-- the same rows
module _ (t : Tables) where
  pub rank-padded : (n : ℕ) → rank_at (padded t) n ≡ rank_at t n
  rank-padded n = same_rank t (padded t) n (λ i _. get-pad t.kinds i)

  pub rows-padded : (n : ℕ) → rows_below (padded t) n ≡ rows_below t n
  unfolding rows_below
  rows-padded zero = refl
  rows-padded (suc n) = simp (rows-padded n, get-pad, rank-padded)

  -- none is behind the last entry
  module _ (n : ℕ) (all : length t.kinds ≤ n) where
    pub rank-past : (m : ℕ) → n ≤ m → rank_at t m ≡ rank_at t n
    unfolding rank_at
    rank-past zero h = let e : n ≡ 0 = omega arith in rw e
    rank-past (suc m) h = same? n (suc m) (λ e. rw e) (λ e. let k : length t.kinds ≤ m = omega arith in rw (get_or-eq_default t.kinds 0 k) (let g = rank-past m (omega arith) in omega arith))

    pub rows-past : (m : ℕ) → n ≤ m → rows_below t m ≡ rows_below t n
    unfolding rows_below
    rows-past zero h = let e : n ≡ 0 = omega arith in rw e
    rows-past (suc m) h = same? n (suc m) (λ e. rw e) (λ e. let k : length t.kinds ≤ m = omega arith in rw (get_or-eq_default t.kinds 0 k, append-nil) (rows-past m (omega arith)))
