-- What the line that is being read has fixed so far, stage by stage.
use Rattle.std.specs.Prelude.{◌≡◌, true, ◌||◌, ℕ, ◌+◌, ◌*◌, ◌^◌, ◌≤◌, ◌<◌}
use Rattle.sorts.specs.Sorts.{is_bits, is_float, is_word}
use Rattle.smtgrammar.specs.declared.Place.{Place}
use Rattle.smtgrammar.specs.declared.Line.{Line}
use Rattle.smtgrammar.specs.State.{Tables, State}
use Rattle.smtsound.specs.Tables.{kind_in, sort_in, Is}
use Rattle.smtsound.specs.Nodes.{Has, Nodes}

abbrev pub line : ℕ → ℕ → ℕ → ℕ → ℕ → ℕ → ℕ → ℕ → ℕ → Line
line stage n k s a b r m q = record { stage = stage; node = n; kind = k; sort = s; a = a; b = b; r = r; left = m; after = q }

-- node n is declared, or defined, behind which q is the next
pub record Declares (p : Place) (n : ℕ) : Type 0 where
  pub part : p.part ≡ 0
  pub over : p.top ≤ n
  pub inside : n < 65535

pub record Defines (t : Tables) (p : Place) (n q : ℕ) : Type 0 where
  pub part : p.part ≡ 1
  pub was : kind_in t n ≡ 0
  pub over : p.gap ≤ n
  pub inside : n < 65535
  pub after : n < q

-- s is a sort, and that to which node n is obliged, if it is
pub record Suits (t : Tables) (n s : ℕ) : Type 0 where
  pub is : (is_bits s || is_float s) ≡ true
  pub free : 0 < sort_in t n → sort_in t n ≡ s

-- the kinds whose number is one of few
pub data Late : ℕ → Type 0 where
  fsw : Late 4
  flag : Late 5
  reads : Late 26

-- kind and number of a declared node
pub data Numbered (t : Tables) (n : ℕ) : ℕ → ℕ → Type 0 where
  named : {k a : ℕ} → 1 ≤ k → k ≤ 3 → a < 2 ^ 64 → Numbered t n k a
  fsw : Numbered t n 4 0
  flag : {a : ℕ} → a ≤ 2 → Numbered t n 5 a
  reads : {a : ℕ} → a < n → kind_in t a ≡ 0 → Numbered t n 26 a

-- kind and sort where a word may follow
pub data Worded : ℕ → ℕ → Type 0 where
  equal : {s : ℕ} → is_bits s ≡ true → Worded 9 s
  sum : {k s : ℕ} → 16 ≤ k → k ≤ 19 → is_float s ≡ true → Worded k s
  root : {k s : ℕ} → 23 ≤ k → k ≤ 24 → is_float s ≡ true → Worded k s
  pattern : {s : ℕ} → is_float s ≡ true → Worded 25 s
  whole : {s : ℕ} → is_word s ≡ true → Worded 27 s

-- kind, sort and rounding or place where the first operand follows
pub data Kinded : ℕ → ℕ → ℕ → Type 0 where
  mask : {k s : ℕ} → 7 ≤ k → k ≤ 8 → is_bits s ≡ true → Kinded k s 0
  both : {k : ℕ} → 10 ≤ k → k ≤ 11 → Kinded k 1 0
  negation : Kinded 12 1 0
  choice : {s : ℕ} → is_bits s ≡ true → Kinded 13 s 0
  extract : {s r : ℕ} → is_bits s ≡ true → s ≤ r + 1 → r < 80 → Kinded 14 s r
  join : {s : ℕ} → is_bits s ≡ true → Kinded 15 s 0
  sum : {k s r : ℕ} → 16 ≤ k → k ≤ 19 → is_float s ≡ true → r ≤ 1 → Kinded k s r
  compare : {k : ℕ} → 20 ≤ k → k ≤ 21 → Kinded k 1 0
  nan : Kinded 22 1 0
  root : {k s r : ℕ} → 23 ≤ k → k ≤ 24 → is_float s ≡ true → r ≤ 1 → Kinded k s r
  whole : {s r : ℕ} → is_word s ≡ true → r ≤ 1 → Kinded 27 s r
  convert : {s r : ℕ} → is_float s ≡ true → r ≤ 1 → Kinded 28 s r

-- .. where the second one follows, with the first one's sort x
pub data Paired : ℕ → ℕ → ℕ → ℕ → Type 0 where
  mask : {k s : ℕ} → 7 ≤ k → k ≤ 8 → is_bits s ≡ true → Paired k s 0 s
  equal : {x : ℕ} → is_bits x ≡ true → Paired 9 1 0 x
  both : {k : ℕ} → 10 ≤ k → k ≤ 11 → Paired k 1 0 1
  choice : {s : ℕ} → is_bits s ≡ true → Paired 13 s 0 1
  join : {s x : ℕ} → is_bits s ≡ true → is_bits x ≡ true → x < s → Paired 15 s 0 x
  sum : {k s r : ℕ} → 16 ≤ k → k ≤ 19 → is_float s ≡ true → r ≤ 1 → Paired k s r s
  compare : {k x : ℕ} → 20 ≤ k → k ≤ 21 → is_float x ≡ true → Paired k 1 0 x

pub data Lined (t : Tables) (p : Place) : Line → Type 0 where
  at0 : Lined t p (line 0 0 0 0 0 0 0 0 0)
  at1 : p.part ≡ 0 → Lined t p (line 1 0 0 0 0 0 0 0 0)
  at2 : {n : ℕ} → Declares p n → Lined t p (line 2 n 0 0 0 0 0 0 0)
  at3 : {n k : ℕ} → Declares p n → Late k → Lined t p (line 3 n k 0 0 0 0 0 0)
  at4 : {n k a m : ℕ} → Declares p n → 1 ≤ k → k ≤ 3 → a < 2 ^ 64 → (m ≡ 0 → a ≡ 0) → Lined t p (line 4 n k 0 a 0 0 m 0)
  at5 : {n k a : ℕ} → Declares p n → Numbered t n k a → Lined t p (line 5 n k 0 a 0 0 0 0)
  at6 : p.part ≡ 1 → Lined t p (line 6 0 0 0 0 0 0 0 0)
  at7 : {n q : ℕ} → Defines t p n q → Lined t p (line 7 n 0 0 0 0 0 0 q)
  at8 : {n s q : ℕ} → Defines t p n q → Suits t n s → Lined t p (line 8 n 0 s 0 0 0 0 q)
  at9 : {n k s q : ℕ} → Defines t p n q → Suits t n s → Worded k s → Lined t p (line 9 n k s 0 0 0 0 q)
  at10 : {n k s r q : ℕ} → Defines t p n q → Suits t n s → Kinded k s r → Lined t p (line 10 n k s 0 0 r 0 q)
  at11 : {n k s a r q x : ℕ} → Defines t p n q → Suits t n s → Has t n a → sort_in t a ≡ x → Paired k s r x → Lined t p (line 11 n k s a 0 r 0 q)
  at12 : {n s a b q : ℕ} → Defines t p n q → Suits t n s → Has t n a → Has t n b → sort_in t a ≡ 1 → sort_in t b ≡ s → is_bits s ≡ true
      → Lined t p (line 12 n 13 s a b 0 0 q)
  at13 : {n s q : ℕ} → Defines t p n q → Suits t n s → is_bits s ≡ true → Lined t p (line 13 n 14 s 0 0 0 0 q)
  at14 : {n s a b m q : ℕ} (e : ℕ) → Defines t p n q → Suits t n s → is_bits s ≡ true → 1 ≤ m → e + m ≡ s → b * 2 ^ 64 + a < 2 ^ e
      → Lined t p (line 14 n 6 s a b 0 m q)
  at15 : p.part ≡ 2 → Lined t p (line 15 0 0 0 0 0 0 0 0)

-- some node is there
pub record Some (t : Tables) : Type 0 where
  pub at : ℕ
  pub is : Is t at

pub record Sound (σ : State) : Type 0 where
  pub nodes : Nodes σ.tables σ.place.part σ.place.top σ.place.owed
  pub some : 0 < σ.place.count → Some σ.tables
  pub lined : Lined σ.tables σ.place σ.line
