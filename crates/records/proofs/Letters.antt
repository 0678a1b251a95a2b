-- Laws of a text's bytes, as its loop reads them: p is what was read so far.
use Rattle.std.proofs.Common.{◌≡◌, refl, sym, ◌∙◌, ap, ℕ, suc, ◌+◌, ◌-◌, ◌<◌, ◌≤◌, List, [], ◌∷◌, ◌++◌, append_assoc, append-nil, length, take, drop, set, replicate, Ok, arith, length-set, add-one, take-append-drop, take-suc-set, drop-set-lt, drop-drop}
use native.Mathlib.Nat.{sub-zero}
use Rattle.texts.specs.declared.Text.{Text}
use Rattle.records.specs.Reading.{Reading, got, bad, ◌▹◌, limited_at}
use Rattle.records.specs.Format.{letters_at, text_of, text_at}
use Rattle.records.specs.Inside.Steps.{Reads}
use Rattle.records.specs.declared.Cursor.{Cursor}
use Rattle.records.specs.declared.Refusal.TheVariants.{BadText}
use Rattle.records.proofs.Sequence.{Left}

-- what is left of a text of len bytes, k of them behind p
abbrev pub after : List ℕ → ℕ → List ℕ → ℕ → ℕ → Reading Text
after s len p k n = letters_at k s n ▹ λ t e. got (text_of len (p ++ t)) e

one_more : (len : ℕ) (p : List ℕ) (b : ℕ) (r : Reading (List ℕ))
    → ((r ▹ λ l e. got (b ∷ l) e) ▹ λ t e. got (text_of len (p ++ t)) e) ≡ (r ▹ λ t e. got (text_of len ((p ++ b ∷ []) ++ t)) e)
one_more len p b (got l e) = ap (λ (t : List ℕ). got (text_of len t) e) (sym (append_assoc p (b ∷ []) l))
one_more len p b (bad q n) = refl

split : (s : List ℕ) (len : ℕ) (p : List ℕ) (k n : ℕ) → after s len p (suc k) n ≡ (limited_at 127 BadText s n ▹ λ b m. after s len (p ++ b ∷ []) k m)
unfolding letters_at
split s len p k n = way (limited_at 127 BadText s n)
  where
    way : (r : Reading ℕ)
        → ((r ▹ λ b m. letters_at k s m ▹ λ l e. got (b ∷ l) e) ▹ λ t e. got (text_of len (p ++ t)) e)
        ≡ (r ▹ λ b m. letters_at k s m ▹ λ t e. got (text_of len ((p ++ b ∷ []) ++ t)) e)
    way (got b m) = one_more len p b (letters_at k s m)
    way (bad q m) = refl

-- what the loop keeps
pub record Kept (start : Cursor) (len i : ℕ) (bytes : List ℕ) (c : Cursor) : Type 0 where
  pub long : length bytes ≡ 32
  pub short : len ≤ 32
  pub zeros : drop i bytes ≡ replicate (32 - i) 0
  pub left : Left text_at start (after start.input.now len (take i bytes) (len - i)) c

pub begun : {start c : Cursor} {len : ℕ} → len ≤ 32 → Left text_at start (λ n. letters_at len start.input.now n ▹ λ l e. got (text_of len l) e) c → Kept start len 0 (replicate 32 0) c
begun {start} {c} {len} h l = record { long = refl; short = h; zeros = refl; left = record { comes = rw sub-zero l.comes; input = l.input } }

module _ {start : Cursor} {len i : ℕ} {bytes : List ℕ} {c : Cursor} (k : Kept start len i bytes c) where
  -- the next byte is read
  pub one : i < len → Left text_at start (λ n. limited_at 127 BadText start.input.now n ▹ λ b m. after start.input.now len (take i bytes ++ b ∷ []) (len - (i + 1)) m) c
  one h =
      let q : len - i ≡ suc (len - (i + 1)) = omega arith in
      record { comes = k.left.comes ∙ rw q (split start.input.now len (take i bytes) (len - (i + 1)) c.at); input = k.left.input }

  pub on : (b : ℕ) {d : Cursor} → i < len → Left text_at start (after start.input.now len (take i bytes ++ b ∷ []) (len - (i + 1))) d → Kept start len (i + 1) (set bytes i b) d
  on b h l =
      let q : 32 - i ≡ suc (32 - (i + 1)) = omega (arith, k.short) in
      let e : take (i + 1) (set bytes i b) ≡ take i bytes ++ b ∷ [] = rw (add-one i) (take-suc-set bytes i b (omega (arith, k.short, k.long))) in
      record {
        long = length-set bytes i b ∙ k.long;
        short = k.short;
        zeros = drop-set-lt (i + 1) bytes i b (omega arith) ∙ sym (drop-drop 1 i bytes) ∙ ap (drop 1) (rw q at k.zeros);
        left = rw e l;
      }

  -- all of them were read
  pub over : i ≡ len → Reads text_at start c (Ok (record { bytes = bytes; len = len }))
  unfolding letters_at
  over h =
      let q : len - i ≡ 0 = omega arith in
      let w = rw q at k.left.comes in
      record {
        comes = sym (w ∙ ap (λ (l : List ℕ). got (record { bytes = l; len = len }) c.at) (rw (append-nil, ← h, ← k.zeros) (take-append-drop i bytes)));
        input = k.left.input;
      }
