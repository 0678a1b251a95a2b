-- Laws of bytes and numbers at a place.
use Rattle.std.proofs.Common.{◌≡◌, refl, sym, ℕ, zero, suc, ◌+◌, ◌<◌, ◌≤◌, List, length, get_or, Result, Ok, take, drop, ◌-◌, min, take_all, length-drop, drop-cons, add-one, Bool, true, false, cond, leb, arith, lt-ltb, le-ltb, le-leb}
use Rattle.std.proofs.lemmas.Bool.{lt-leb}
use Rattle.std.specs.Array.{IsFirstChunk}
use Rattle.std.specs.Int.{from_le_bytes, w16, w32, w64}
use Rattle.words.specs.Bytes.{little_endian, bytes_at}
use Rattle.records.specs.Reading.{Reading, got, bad, ◌▹◌, byte_at, tested_at, number_at}
use Rattle.records.specs.Inside.Steps.{chunk_at, Reads}
use Rattle.records.specs.declared.Cursor.{Cursor}
use Rattle.records.specs.declared.Refusal.{Refusal}
use Rattle.records.specs.declared.Refusal.TheVariants.{Short}

-- a byte that passes, one that does not, and none
module _ (f : ℕ → Bool) (r : Refusal) (s : List ℕ) (at : ℕ) where
  pub tested-on : (b : ℕ) → b ≡ get_or s at 0 → at < length s → true ≡ f b → got b (at + 1) ≡ tested_at f r s at
  unfolding byte_at tested_at
  tested-on b v h e = let k = rw v at e in rw (v, lt-ltb _ _ h, sym k)

  pub tested-off : (b : ℕ) → b ≡ get_or s at 0 → at < length s → false ≡ f b → bad r at ≡ tested_at f r s at
  unfolding byte_at tested_at
  tested-off b v h e = let k = rw v at e in rw (lt-ltb _ _ h, sym k)

  pub tested-end : length s ≤ at → bad Short (length s) ≡ tested_at f r s at
  unfolding byte_at tested_at
  tested-end h = rw (le-ltb _ _ h)

-- so many bytes that are there, and that are not
pub bytes-taken : (n : ℕ) (s : List ℕ) (at : ℕ) → at + n ≤ length s → take n (drop at s) ≡ bytes_at s at n
bytes-taken zero s at h = refl
bytes-taken (suc n) s at h =
    let e : at < length s = omega arith in
    rw (drop-cons s at 0 e, ← bytes-taken n s (at + 1) (omega arith), ← add-one at) refl

module _ (n : ℕ) (s : List ℕ) (at : ℕ) where
  pub chunk-on : at + n ≤ length s → got (take n (drop at s)) (at + n) ≡ chunk_at n s at
  unfolding chunk_at
  chunk-on h = rw (le-leb _ _ h, bytes-taken n s at h)

  pub chunk-end : length s < at + n → bad Short (length s) ≡ chunk_at n s at
  unfolding chunk_at
  chunk-end h = rw (lt-leb _ _ h)

  -- .. as the code looks for them
  pub chunk-found : (k : ℕ) (l : List ℕ) → k ≡ min at (length s) → 0 < n → IsFirstChunk (take (length s - k) (drop k s)) l n → got l (at + n) ≡ chunk_at n s at
  chunk-found k l e p f =
      let d = length-drop k s in
      let w : take (length s - k) (drop k s) ≡ drop k s = take_all (length s - k) (drop k s) (omega (arith, d)) in
      let h = rw w at f.enough in
      let a : k ≡ at = omega (arith, d, h, e, p) in
      rw (f.same, w, a) (chunk-on (omega (arith, d, h, e, p)))

  pub chunk-missed : (k : ℕ) → k ≡ min at (length s) → 0 < n → length (take (length s - k) (drop k s)) < n → bad Short (length s) ≡ chunk_at n s at
  chunk-missed k e p h =
      let d = length-drop k s in
      let w : take (length s - k) (drop k s) ≡ drop k s = take_all (length s - k) (drop k s) (omega (arith, d)) in
      let g = rw w at h in
      chunk-end (omega (arith, d, g, e, p))

  -- their number
  pub number-chunk : number_at n s at ≡ (chunk_at n s at ▹ λ l m. got (little_endian l) m)
  unfolding number_at chunk_at
  number-chunk = way (leb (at + n) (length s))
    where
      way : (t : Bool) → cond t (got (little_endian (bytes_at s at n)) (at + n)) (bad Short (length s)) ≡ (cond t (got (bytes_at s at n) (at + n)) (bad Short (length s)) ▹ λ l m. got (little_endian l) m)
      way true = refl
      way false = refl

-- the bytes that were read, and their number at each width
module _ {old new : Cursor} {r : Result (List ℕ) Refusal} {l : List ℕ} where
  chunk-is : (n : ℕ) → Reads (chunk_at n) old new r → r ≡ Ok l → l ≡ bytes_at old.input.now old.at n
  unfolding chunk_at
  chunk-is n h e = way (leb (old.at + n) (length old.input.now)) (rw e at h.comes)
    where
      way : (t : Bool) → got l new.at ≡ cond t (got (bytes_at old.input.now old.at n) (old.at + n)) (bad Short (length old.input.now)) → l ≡ bytes_at old.input.now old.at n
      way true q = cc
      way false q = let z : ◌≡◌ {A = ℕ} 0 1 = cc in absurd (omega arith)

  pub le_2 : Reads (chunk_at 2) old new r → r ≡ Ok l → from_le_bytes w16 l ≡ little_endian l
  le_2 h e = rw (chunk-is 2 h e) (omega arith)

  pub le_4 : Reads (chunk_at 4) old new r → r ≡ Ok l → from_le_bytes w32 l ≡ little_endian l
  le_4 h e = rw (chunk-is 4 h e) (omega arith)

  pub le_8 : Reads (chunk_at 8) old new r → r ≡ Ok l → from_le_bytes w64 l ≡ little_endian l
  le_8 h e = rw (chunk-is 8 h e) (omega arith)

-- a byte that was read passes its test
pub passed : (f : ℕ → Bool) (q : Refusal) {old new : Cursor} {r : Result ℕ Refusal} {v : ℕ} → Reads (tested_at f q) old new r → r ≡ Ok v → f v ≡ true
unfolding tested_at
passed f q {old} {new} {v = v} h e = way (byte_at old.input.now old.at) (rw e at h.comes)
  where
    never : {A : Type 0} → ◌≡◌ {A = ℕ} 0 1 → A
    never z = absurd (omega arith)

    test : (t : Bool) (b n : ℕ) → f b ≡ t → got v new.at ≡ cond t (got b n) (bad q old.at) → f v ≡ true
    test true b n g w = let z : v ≡ b = cc in rw z g
    test false b n g w = let z : ◌≡◌ {A = ℕ} 0 1 = cc in never z

    way : (m : Reading ℕ) → got v new.at ≡ (m ▹ λ b n. cond (f b) (got b n) (bad q old.at)) → f v ≡ true
    way (got b n) w = test (f b) b n refl w
    way (bad x p) w = let z : ◌≡◌ {A = ℕ} 0 1 = cc in never z
