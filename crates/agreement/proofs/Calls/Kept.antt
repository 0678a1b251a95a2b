-- A state that is written to words and read is that state
use Rattle.std.specs.Prelude.{◌≡◌, true, ℕ, ◌≤◌, ◌<◌, length, get_or, take, drop, replicate}
use Rattle.std.proofs.Common.{sym, ◌∙◌, mod-eq_of_lt, zero-add, arith, take-append-drop, length-take, ext_get_or}
use Rattle.std.proofs.Math.Path.{ap}
use mathlib.Core.List.{List, [], ◌++◌}
use Rattle.std.proofs.Math.Decide.{dec_lt}
use borrow.Author.Tests.{lt-ltb}
use Rattle.std.proofs.lemmas.List.Edits.{sets-eq}
use Rattle.std.proofs.Math.Seq.{length-sets}
use Rattle.texts.specs.Bytes.{all}
use Rattle.lists.specs.Rows.{room_of}
use Rattle.lists.specs.Stack.{fresh}
use Rattle.lists.specs.declared.State.{State}
use Rattle.export.specs.Flat.{laid}
use Rattle.export.specs.Lifts.{small_is, low32, state_in, state_words}
use Rattle.agreement.specs.Runs.{Held}
use Rattle.agreement.proofs.Fine.Stack.{entries, entries_at}
use Rattle.agreement.proofs.Fine.Valid.{inside}
use Rattle.agreement.proofs.Tracks.{Tracks}

-- Eight slots, and numbers of 32 bits
pub record Narrow (s : State) : Type 0 where
  pub eight : length s.slots ≡ 8
  pub slot : (k : ℕ) → get_or s.slots k 0 < 4294967296
  pub depth : s.depth < 4294967296
  pub nodes : s.nodes < 4294967296
  pub statements : s.statements < 4294967296
  pub inputs : s.inputs < 4294967296
  pub temporaries : s.temporaries < 4294967296

-- Every state of a run is so
pub tracked-narrow : {Γ₀ : List ℕ} {m₀ : ℕ} {Γ : List ℕ} {h : Held} → Tracks Γ₀ m₀ Γ h → Narrow h.st
unfolding room_of
tracked-narrow {Γ = Γ} {h = h} t =
    let p = t.placed in
    let r = t.room in
    let r' = t.room' in
    record {
      eight = p.eight;
      slot = λ k. way k (dec_lt k h.st.depth);
      depth = omega (arith, p.deep);
      nodes = omega arith;
      statements = omega arith;
      inputs = omega (arith, p.counted);
      temporaries = omega (arith, p.counted);
    }
  where
    way : (k : ℕ) → Dec (k < h.st.depth) → get_or h.st.slots k 0 < 4294967296
    way k (yes d) = omega (arith, inside Γ _ (t.placed.used k d), t.placed.count, t.room)
    way k (no d) = omega (arith, t.placed.unused k (omega arith))

-- A list of eight is its entries
eight-entries : (l : List ℕ) → length l ≡ 8 → l ≡ entries 0 8 l ++ []
eight-entries l e = ext_get_or 0 l (entries 0 8 l ++ []) e (λ i h. sym (entries_at 0 8 l [] i (omega arith) ∙ rw zero-add))

-- What is laid in front of at least thirteen words stands before the rest
in-front : (w : List ℕ) (s : State) → 13 ≤ length w → laid w 0 (state_words s) ≡ state_words s ++ drop 13 w
unfolding laid state_words
in-front w s h = sets-eq (state_words s) w 0 h

small_word : (n : ℕ) → n < 4294967296 → low32 n ≡ n
small_word n h = mod-eq_of_lt h

module _ (w : List ℕ) (s : State) (h : 13 ≤ length w) (b : Narrow s) where
  -- READ BACK
  pub state-back : state_in (laid w 0 (state_words s)) ≡ s
  unfolding state_in state_words
  state-back = rw (in-front w s h) (
      simp (
        small_word _ (b.slot 0),
        small_word _ (b.slot 1),
        small_word _ (b.slot 2),
        small_word _ (b.slot 3),
        small_word _ (b.slot 4),
        small_word _ (b.slot 5),
        small_word _ (b.slot 6),
        small_word _ (b.slot 7),
        small_word _ b.depth,
        small_word _ b.nodes,
        small_word _ b.statements,
        small_word _ b.inputs,
        small_word _ b.temporaries,
      )
      (ap (λ (l : List ℕ). record { slots = l; depth = s.depth; nodes = s.nodes; statements = s.statements; inputs = s.inputs; temporaries = s.temporaries }) (sym (eight-entries s.slots b.eight))))

  pub words_small : all small_is (take 13 (laid w 0 (state_words s))) ≡ true
  unfolding state_words
  words_small = rw (in-front w s h) (
      simp (
        lt-ltb _ _ (b.slot 0),
        lt-ltb _ _ (b.slot 1),
        lt-ltb _ _ (b.slot 2),
        lt-ltb _ _ (b.slot 3),
        lt-ltb _ _ (b.slot 4),
        lt-ltb _ _ (b.slot 5),
        lt-ltb _ _ (b.slot 6),
        lt-ltb _ _ (b.slot 7),
        lt-ltb _ _ b.depth,
        lt-ltb _ _ b.nodes,
        lt-ltb _ _ b.statements,
        lt-ltb _ _ b.inputs,
        lt-ltb _ _ b.temporaries,
      ))

  pub words_long : 13 ≤ length (laid w 0 (state_words s))
  unfolding laid
  words_long = omega (arith, length-sets w 0 (state_words s))

-- Thirteen zero words are the fresh state
module _ (w : List ℕ) (e : take 13 w ≡ replicate 13 0) where
  zero-front : w ≡ replicate 13 0 ++ drop 13 w
  zero-front = sym (take-append-drop 13 w) ∙ ap (λ (l : List ℕ). l ++ drop 13 w) e

  pub zero-state : state_in w ≡ fresh
  unfolding state_in
  zero-state = ap state_in zero-front

  pub zero-small : all small_is (take 13 w) ≡ true
  zero-small = rw e

  pub zero-long : 13 ≤ length w
  zero-long = omega (arith, ap length e, length-take 13 w)
