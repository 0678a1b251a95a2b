-- The law of sequence: a reading's parts, one behind the other, over one cursor.
use Rattle.std.proofs.Common.{◌≡◌, refl, sym, ◌∙◌, ap, ℕ, List, Bor, Result, Ok, Err}
use Rattle.std.specs.Result.{IsErr, IsErrAnd}
use Rattle.words.specs.Bytes.{little_endian}
use Rattle.records.specs.Reading.{Reading, got, bad, reading, ◌▹◌, number_at}
use Rattle.records.specs.Inside.Steps.{Reads, chunk_at}
use Rattle.records.specs.declared.Cursor.{Cursor}
use Rattle.records.specs.declared.Refusal.{Refusal}
use Rattle.records.proofs.Leaves.{number-chunk}

-- of the reading F from the cursor `start` on, this much is left from the cursor c on
pub record Left {B : Type 0} (F : List ℕ → ℕ → Reading B) (start : Cursor) (rest : ℕ → Reading B) (c : Cursor) : Type 0 where
  pub comes : F start.input.now start.at ≡ rest c.at
  pub input : c.input ≡ start.input

pub all_left : {B : Type 0} {F : List ℕ → ℕ → Reading B} {start : Cursor} → Left F start (F start.input.now) start
all_left = record { comes = refl; input = refl }

module _ {B : Type 0} {F : List ℕ → ℕ → Reading B} {start c : Cursor} where
  -- what is left, said in another way
  pub turn : {rest rest' : ℕ → Reading B} → Left F start rest c → ((n : ℕ) → rest n ≡ rest' n) → Left F start rest' c
  turn l e = record { comes = l.comes ∙ e c.at; input = l.input }

  -- all that is left is one reading
  pub ends : {f : List ℕ → ℕ → Reading B} {new : Cursor} {r : Result B Refusal} → Left F start (f start.input.now) c → Reads f c new r → Reads F start new r
  ends {f} l h = record { comes = h.comes ∙ ap (λ (b : Bor (List ℕ)). f b.now c.at) l.input ∙ sym l.comes; input = h.input ∙ l.input }

module _ {A B : Type 0} {F : List ℕ → ℕ → Reading B} {f : List ℕ → ℕ → Reading A} (g : A → ℕ → Reading B) {start old new : Cursor} {r : Result A Refusal} where
  from : Left F start (λ n. f start.input.now n ▹ g) old → Reads f old new r → F start.input.now start.at ≡ (reading r new.at ▹ g)
  from l h = l.comes ∙ ap (λ (b : Bor (List ℕ)). f b.now old.at ▹ g) (sym l.input) ∙ ap (λ (x : Reading A). x ▹ g) (sym h.comes)

  -- the next part was read
  pub next : {v : A} → Left F start (λ n. f start.input.now n ▹ g) old → Reads f old new r → r ≡ Ok v → Left F start (g v) new
  next {v} l h e = record { comes = from l h ∙ ap (λ (x : Result A Refusal). reading x new.at ▹ g) e; input = h.input ∙ l.input }

  -- .. or it is refused, and so is the whole
  pub stops : {q : Refusal} {w : Result B Refusal} → Left F start (λ n. f start.input.now n ▹ g) old → Reads f old new r → r ≡ Err q
      → IsErr w × IsErrAnd w (λ e. e ≡ q) → Reads F start new w
  stops {q} {w} l h e k = record { comes = to w k; input = h.input ∙ l.input }
    where
      to : (w : Result B Refusal) → IsErr w × IsErrAnd w (λ e. e ≡ q) → reading w new.at ≡ F start.input.now start.at
      to (Err x) k = ap (λ (x : Refusal). bad x new.at) k.1 ∙ sym (from l h ∙ ap (λ (x : Result A Refusal). reading x new.at ▹ g) e)
      to (Ok v) k = absurd k.1

-- a number is the bytes that stand for it
module _ {B : Type 0} {F : List ℕ → ℕ → Reading B} (k : ℕ) (g : ℕ → ℕ → Reading B) {start old : Cursor} where
  pub as_bytes : Left F start (λ n. number_at k start.input.now n ▹ g) old → Left F start (λ n. chunk_at k start.input.now n ▹ λ l m. g (little_endian l) m) old
  as_bytes l = record { comes = l.comes ∙ ap (λ (x : Reading ℕ). x ▹ g) (number-chunk k start.input.now old.at) ∙ over (chunk_at k start.input.now old.at); input = l.input }
    where
      over : (x : Reading (List ℕ)) → ((x ▹ λ l m. got (little_endian l) m) ▹ g) ≡ (x ▹ λ l m. g (little_endian l) m)
      over (got l m) = refl
      over (bad r p) = refl

-- at the end the whole has come to a value
pub done : {B : Type 0} {F : List ℕ → ℕ → Reading B} {v : B} {start c : Cursor} → Left F start (got v) c → Reads F start c (Ok v)
done l = record { comes = sym l.comes; input = l.input }
