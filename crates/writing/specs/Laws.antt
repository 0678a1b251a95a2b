-- Text that is written one part after the other.
use Rattle.std.specs.Prelude.{◌≡◌, refl, Bool, true, false, cond, List, [], ◌∷◌, ◌++◌, ℕ, zero, suc, ◌+◌, ◌-◌, ◌/◌, ◌%◌, ◌≤◌, ◌<◌, min, ltb, length, get_or, set, take, drop}
use Rattle.std.proofs.Common.{sym, ap, ◌∙◌, ⊎_elim, add-zero, append-nil, eq-zero-or-pos, arith, length-append, length-take, take_all, take-append-drop, drop-drop, append_assoc}
use Rattle.std.proofs.lemmas.List.Edits.{sets, sets-eq}
use Rattle.std.proofs.lemmas.List.{take_more}
use Rattle.std.proofs.Math.ListN.{drop_of_length-le}
use Rattle.std.proofs.Math.Seq.{length-sets, set_out}
use Rattle.writing.specs.Bytes.{digits}
use Rattle.writing.specs.Put.{Counted, Put, Wrote, largest}
use Rattle.writing.specs.Sink.{SinkLaws}
use Rattle.writing.specs.declared.Writer.{Writer}

-- bytes that are stored one run after the other
sets-append : (l a b : List ℕ) (i : ℕ) → sets l i (a ++ b) ≡ sets (sets l i a) (i + length a) b
sets-append l [] b i = rw add-zero
sets-append l (x ∷ a) b i =
    let z : i + suc (length a) ≡ suc i + length a = omega arith in
    rw z (sets-append (set l i x) a b (suc i))

-- nothing is stored from the end on
sets-out : (l : List ℕ) (i : ℕ) (a : List ℕ) → length l ≤ i → sets l i a ≡ l
sets-out l i [] h = refl
sets-out l i (x ∷ a) h = rw (set_out l i x h) (sets-out l (suc i) a (omega arith))

-- .. so a place past a number that is no less than the length can be that number
sets-min : (l : List ℕ) (i m : ℕ) (a : List ℕ) → length l ≤ m → sets l (min i m) a ≡ sets l i a
sets-min l i m a h =
    ⊎_elim
    (λ (q : i - m ≡ 0). let e : min i m ≡ i = omega arith in rw e)
    (λ (q : 0 < i - m). sets-out l (min i m) a (omega arith) ∙ sym (sets-out l i a (omega arith)))
    (eq-zero-or-pos (i - m))

-- bytes that are stored from a place on, as many as there is room for
module _ (l a : List ℕ) where
  enough : (i n : ℕ) → n ≡ min (length a) (length l - i) → i ≤ length l → sets l i (take n a) ≡ sets l i a
  enough i n e h =
      let k : length (take n a) ≡ n = omega (arith, length-take n a) in
      sym (ap (sets l i) (sym (take-append-drop n a)) ∙ sets-append l (take n a) (drop n a) i ∙
      ⊎_elim
      (λ (q : length a - n ≡ 0). let z : drop n a ≡ [] = drop_of_length-le a {i = n} (omega arith) in rw z)
      (λ (q : 0 < length a - n). sets-out (sets l i (take n a)) (i + length (take n a)) (drop n a) (omega (arith, length-sets l i (take n a))))
      (eq-zero-or-pos (length a - n)))

  pub sets-room : (i p n : ℕ) → p ≡ min i (length l) → n ≡ min (length a) (length l - p) → take p l ++ (take n a ++ drop (p + n - p) (drop p l)) ≡ sets l i a
  sets-room i p n e f =
      let m : p + n - p ≡ n = omega arith in
      ⊎_elim
      (λ (q : length l - i ≡ 0).
      let z : n ≡ 0 = omega arith in
      rw (m, z) (take-append-drop p l ∙ sym (sets-out l i a (omega arith))))
      (λ (q : 0 < length l - i).
      let k : p ≡ i = omega arith in
      let t : length (take n a) ≡ n = omega (arith, length-take n a) in
      let w : sets l i (take n a) ≡ take i l ++ (take n a ++ drop (i + length (take n a)) l) =
      sets-eq (take n a) l i (omega arith) ∙ append_assoc (take i l) (take n a) (drop (i + length (take n a)) l) in
      rw (m, k, drop-drop n i l) (sym (rw t at w) ∙ enough i n (rw k at f) (omega arith)))
      (eq-zero-or-pos (length l - i))

-- a room that is filled from its front, byte by byte, and whole
pub fills-more : (r s : List ℕ) (i : ℕ) → i < length s → set (sets r 0 (take i s)) i (get_or s i 0) ≡ sets r 0 (take (i + 1) s)
fills-more r s i h =
    let k : 0 + length (take i s) ≡ i = omega (arith, length-take i s) in
    rw (take_more s i 0 h, sets-append r (take i s) (get_or s i 0 ∷ []) 0, k) refl

pub fills : (r s : List ℕ) (i : ℕ) → length s ≤ i → length r ≡ length s → sets r 0 (take i s) ≡ s
fills r s i h e =
    let n : drop (0 + length s) r ≡ [] = drop_of_length-le r {i = 0 + length s} (omega arith) in
    rw (take_all i s h) (sets-eq s r 0 (omega arith) ∙ rw n (append-nil s))

-- one part, and then another
module _ {a b : List ℕ} {at p r : ℕ} {l l' l'' : List ℕ} where
  both : Put a at p l l' → Put b p r l' l'' → Put (a ++ b) at r l l''
  both x y =
      record {
        place = omega (arith, length-append a b);
        bytes = y.bytes ∙ rw (sets-append l a b at, ← x.bytes, x.place, sets-min l' (at + length a) largest b (omega arith));
        room = x.room;
      }

empty : (a : List ℕ) → length a ≡ 0 → a ≡ []
empty [] z = refl
empty (b ∷ a) z = absurd (omega arith)

-- a place is a word, as that of every writer: then no text need be told from an empty one
pub wrote : {a : List ℕ} {s t : Writer} → s.at ≤ largest → Put a s.at t.at s.out.now t.out.now → t.out.ghost_name ≡ s.out.ghost_name → Wrote a s t
wrote {a} {s} h x e =
    record { put = λ _. x; none = λ z. (omega (arith, x.place), x.bytes ∙ rw (empty a z)); same = e }

-- a text and then another, of which each may be empty
follow : (a b : List ℕ) {s t u : Writer} → Wrote a s t → Wrote b t u → Wrote (a ++ b) s u
follow [] b x y =
    let z = x.none refl in
    record { put = λ l. rw (← z.0, ← z.1) (y.put l); none = λ l. let w = y.none l in (w.0 ∙ z.0, w.1 ∙ z.1); same = y.same ∙ x.same }
follow (c ∷ a) [] x y =
    let z = y.none refl in
    record { put = λ l. rw (append-nil, z.0, z.1) (x.put (omega arith)); none = λ l. absurd (omega arith); same = y.same ∙ x.same }
follow (c ∷ a) (d ∷ b) x y =
    record { put = λ l. both (x.put (omega arith)) (y.put (omega arith)); none = λ l. absurd (omega arith); same = y.same ∙ x.same }

pub writer_laws : SinkLaws Wrote
writer_laws = record {
  nothing = λ s. record { put = λ l. absurd (omega arith); none = λ _. (refl, refl); same = refl };
  then = λ {a} {b} x y. follow a b x y;
}

pub length_laws : SinkLaws Counted
length_laws = record {
  nothing = λ s h. omega arith;
  then = λ {a} {b} x y h. let p = x h in let q = y (omega arith) in omega (arith, length-append a b);
}

either : (t : Bool) (a b : List ℕ) (n : ℕ) → length a ≤ n → length b ≤ n → length (cond t a b) ≤ n
either true a b n h k = h
either false a b n h k = k

-- no more than k digits
pub digits-most : (k v : ℕ) → length (digits k v) ≤ k
unfolding digits
digits-most zero v = omega arith
digits-most (suc k) v =
    either (ltb v 10) ((48 + v) ∷ []) (digits k (v / 10) ++ ((48 + v % 10) ∷ [])) (suc k) (omega arith)
    (omega (arith, length-append (digits k (v / 10)) ((48 + v % 10) ∷ []), digits-most k (v / 10)))
