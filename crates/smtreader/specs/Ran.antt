-- What a run over a text says, and a turn of it.
use Rattle.std.specs.Prelude.{◌≡◌, refl, Bool, true, false, cond, List, ℕ, Option, Some, None, Result, Ok, Err, ◌+◌, ◌-◌, ◌≤◌, ◌<◌, length, take, drop, min, leb, ltb, eqb, get_or}
use Rattle.std.proofs.Common.{◌∙◌, subst, arith, length-set}
use Rattle.std.proofs.lemmas.List.{length-replicate}
use Rattle.viable.specs.Grammar.{Got}
use Rattle.viable.specs.Runs.{Stops}
use Rattle.smtgrammar.specs.State.{limit, Tables, State, empty, start, no_line}
use Rattle.smtgrammar.specs.Next.{entered, obliged, declared, defined, asserted, termed, kind_of, second_field, third_field, onward, turned, operand₀, operand₁, word, opened, digit, begun, numeral, next_at}
use Rattle.smtgrammar.specs.Rows.{rank_at}
use Rattle.smtgrammar.specs.Grammar.{Choice, Token, done, Reads}
use Rattle.smtgrammar.specs.declared.Place.{Place}
use Rattle.smtgrammar.specs.declared.Line.{Line}
use Rattle.needs.specs.Needed.{arity}
use Rattle.smtsound.specs.Lines.{Sound, Lined, at0, at1, at2, at3, at4, at5, at6, at7, at8, at9, at10, at11, at12, at13, at14, at15}
use Rattle.smttokens.specs.Taken.{state, Right}
use Rattle.smttokens.specs.declared.Token as tokens
use Rattle.smtreader.specs.Counted.{rank_most}
use Rattle.smtreader.specs.Fits.{node-small, fits}
use Rattle.smtreader.specs.Held.{Held, part, held_start, held_on, held_more, held-inside, held-stops, held_reads}
use Rattle.smtreader.specs.Inside.{Roomed, Fits}
use Rattle.smtreader.specs.Padded.{padded, blank, blank-padded, pad_state, choice-padded, next-padded, rank-padded}

-- the columns stand for the tables of the state that the text leaves, and this is its count
pub record Read (x : List ℕ) (t : Tables) (n : ℕ) : Type 0 where
  pub last : State
  pub reads : Reads x last
  pub tables : last.tables ≡ padded t
  pub count : last.place.count ≡ n
  pub sound : Sound last
  pub ranked : last.place.count ≡ rank_at t 65535

-- .. or the place from which no text can follow; or a number has no entry, and there are longer columns
abbrev pub Ends : List ℕ → Tables → Option (Result ℕ ℕ) → Type 0
Ends x t (Some (Ok n)) = Read x t n
Ends x t (Some (Err q)) = Stops Token done start x q
Ends x t None = length t.kinds < 65536

-- each column has n entries, and the lowest numbers one for each sort
pub record Wide (n : ℕ) (t : Tables) : Type 0 where
  pub kinds : length t.kinds ≡ n
  pub firsts : length t.field_a ≡ n
  pub seconds : length t.field_b ≡ n
  pub thirds : length t.field_c ≡ n
  pub sorts : length t.sorts ≡ n
  pub lowest : length t.lowest ≡ 3905

-- .. and keeps them
module _ {n : ℕ} where
  wide-obliged : (b : Bool) (m s : ℕ) (t : Tables) → Wide n t → Wide n (obliged b m s t)
  unfolding obliged
  wide-obliged true m s t w =
      record { kinds = w.kinds; firsts = w.firsts; seconds = w.seconds; thirds = w.thirds; sorts = length-set t.sorts m s ∙ w.sorts; lowest = w.lowest }
  wide-obliged false m s t w = w

  wide-entered : (t : Tables) (m k a b c s : ℕ) → Wide n t → Wide n (entered t m k a b c s)
  unfolding entered
  wide-entered t m k a b c s w =
      record {
        kinds = length-set t.kinds m k ∙ w.kinds;
        firsts = length-set t.field_a m a ∙ w.firsts;
        seconds = length-set t.field_b m b ∙ w.seconds;
        thirds = length-set t.field_c m c ∙ w.thirds;
        sorts = length-set t.sorts m s ∙ w.sorts;
        lowest = length-set t.lowest s (min (get_or t.lowest s limit) m) ∙ w.lowest;
      }

  either : (b : Bool) (σ τ : State) → Wide n σ.tables → Wide n τ.tables → Wide n (cond b σ τ).tables
  either true σ τ v w = v
  either false σ τ v w = w

  module _ (t : Tables) (p : Place) (w : Wide n t) where
    wide-defined : (l : Line) (k a b c : ℕ) → Wide n (defined t p l k a b c).tables
    unfolding defined
    wide-defined l k a b c = wide-entered t l.node k a b c l.sort w

    wide-termed : (l : Line) (a b c : ℕ) → Wide n (termed t p l a b c).tables
    unfolding termed
    wide-termed l a b c = wide-defined l (kind_of t p l a) a (second_field t p l b) (third_field t p l c)

    wide-first : (l : Line) (i : ℕ) → Wide n (operand₀ t p l i).tables
    unfolding operand₀
    wide-first l i = either (leb 2 (arity l.kind)) (onward t p l (turned t p l 11 l.kind i 0 l.r)) (termed t p l i 0 0) w (wide-termed l i 0 0)

    wide-second : (l : Line) (i : ℕ) → Wide n (operand₁ t p l i).tables
    unfolding operand₁
    wide-second l i = either (eqb l.kind 13) (onward t p l (turned t p l 12 l.kind l.a i l.r)) (termed t p l l.a i 0) w (wide-termed l l.a i 0)

    wide-word : (l : Line) (v : ℕ) → Wide n (word t p l v).tables
    unfolding word
    wide-word l v = either (eqb v 0) (onward t p l (turned t p l 10 13 0 0 0)) (onward t p l (turned t p l 10 (cond (eqb l.kind 25) 28 l.kind) 0 0 (v - 1))) w w

    pub wide-next : {u : Tables} (l : Line) (v : ℕ) → Lined u p l → Wide n (next_at t p l v).tables
    unfolding next_at begun asserted numeral declared digit opened
    wide-next l v at0 = w
    wide-next l v (at1 q) = w
    wide-next l v (at2 d) = w
    wide-next l v (at3 d k) = w
    wide-next l v (at4 d lo hi small zeros) = either (eqb v 10) (onward t p l _) (onward t p l _) w w
    wide-next l v (at5 d k) = wide-entered _ _ _ _ _ _ _ (wide-obliged _ _ _ t w)
    wide-next l v (at6 q) = w
    wide-next l v (at7 d) = w
    wide-next l v (at8 d f) = either (eqb v 6) (onward t p l _) (onward t p l _) w w
    wide-next l v (at9 d f x) = either (ltb v 65536) (operand₀ t p l v) (word t p l (v - 65536)) (wide-first l v) (wide-word l (v - 65536))
    wide-next l v (at10 d f x) = wide-first l v
    wide-next l v (at11 d f u g x) = wide-second l v
    wide-next l v (at12 d f u x i j k) = wide-termed l _ _ v
    wide-next l v (at13 d f i) = w
    wide-next l v (at14 m d f i c z k) = either (eqb l.left 1) (defined t p l 6 _ _ _) (onward t p l _) (wide-defined l 6 _ _ _) w
    wide-next l v (at15 q) = w

-- nothing has been read, over columns of one length, which stand for the empty tables
pub record Starts (t : Tables) (p : Place) (l : Line) : Type 0 where
  pub wide : Wide (length t.kinds) t
  pub some : 0 < length t.kinds
  pub most : length t.kinds ≤ 65536
  pub stands : padded t ≡ empty
  pub place : p ≡ start.place
  pub line : l ≡ no_line

pub starts : (n : ℕ) → 0 < n → n ≤ 65536 → Starts (blank n) start.place no_line
starts n h k =
    let e = length-replicate {A = ℕ} n 0 in
    record {
      wide = record { kinds = refl; firsts = refl; seconds = refl; thirds = refl; sorts = refl; lowest = length-replicate {A = ℕ} 3905 65535 };
      some = omega arith;
      most = omega arith;
      stands = blank-padded n k;
      place = refl;
      line = refl;
    }

-- what a loop over the tokens keeps, over columns of n entries
pub record Going (x : List ℕ) (n : ℕ) (t : Tables) (p : Place) (l : Line) (at : ℕ) : Type 0 where
  pub held : Held x (pad_state (state t p l)) at
  pub wide : Wide n t
  pub node : l.node < n

pub begun-going : {x : List ℕ} {t : Tables} {p : Place} {l : Line} → Starts t p l → Going x (length t.kinds) t p l 0
begun-going {x} s = record { held = rw (s.stands, s.place, s.line) (held_start x); wide = s.wide; node = rw s.line s.some }

-- the text ends
pub read_all : {x : List ℕ} {n : ℕ} {t : Tables} {p : Place} {l : Line} {at : ℕ} → Going x n t p l at → length x ≤ at → done (state t p l) ≡ true → Read x t p.count
read_all {t = t} {p} {l} h b e =
    record {
      last = pad_state (state t p l);
      reads = held_reads h.held b e;
      tables = refl;
      count = refl;
      sound = h.held.sound;
      ranked = h.held.counted ∙ rank-padded t 65535;
    }

-- a number that has no entry: the columns are short
pub too_short : (t : Tables) {x : List ℕ} {p : Place} {l : Line} {at : ℕ} → Held x (pad_state (state t p l)) at → length t.kinds ≤ l.node → length t.kinds < 65536
too_short t h b = let m = node-small h.sound.lined in omega arith

-- the state that is lent to a token is the grammar's
pub lent : {σ τ : State} (x : List ℕ) (r : Result tokens.Token ℕ) → σ ≡ τ → Right (Choice σ) x r → Right (Choice τ) x r
lent x r e k = subst (λ (ρ : State). Right (Choice ρ) x r) e k

-- one turn
module _ {x : List ℕ} {n : ℕ} {t : Tables} {p : Place} {l : Line} {at : ℕ} (h : Going x n t p l at) (r : Result tokens.Token ℕ)
    (k : Right (Choice (state t p l)) (take (length x - at) (drop at x)) r) where
  -- the node has an entry
  roomed : Roomed t l.node
  roomed =
      let w = h.wide in
      let b = h.node in
      record { kinds = omega arith; firsts = omega arith; seconds = omega arith; thirds = omega arith; sorts = omega arith; lowest = w.lowest }

  -- the token that was taken
  got : (a : tokens.Token) → r ≡ Ok a → Got (Choice (pad_state (state t p l))) (drop at x) a.choice a.length
  got a e = rw (choice-padded t p l) (rw (part x at) at (rw e at k))

  -- .. fits
  pub ready : (a : tokens.Token) → r ≡ Ok a → Fits t p l a.choice
  ready a e =
      let g = got a e in
      let c = h.held.counted in
      let b = rank_most (padded t) 65535 in
      fits (pad_state (state t p l)) t a.choice h.held.sound (omega arith) roomed g.is.below g.is.allowed

  pub on : (a : tokens.Token) (τ : State) → r ≡ Ok a → τ ≡ next_at t p l a.choice → Held x (pad_state τ) (at + a.length)
  on a τ e f = rw (f, ← next-padded t p l a.choice h.held.sound.lined roomed) (held_on h.held a.choice a.length (got a e))

  pub wider : (a : tokens.Token) (τ : State) → r ≡ Ok a → τ ≡ next_at t p l a.choice → Wide n τ.tables
  wider a τ e f = rw f (wide-next t p h.wide l a.choice h.held.sound.lined)

  pub more : (a : tokens.Token) → r ≡ Ok a → 0 < a.length
  more a e = held_more h.held a.choice a.length (got a e)

  pub inside : (a : tokens.Token) → r ≡ Ok a → at + a.length ≤ length x
  inside a e = held-inside h.held a.choice a.length (got a e)

  -- .. or where none is
  pub stops : (q : ℕ) → at < length x → r ≡ Err q → Stops Token done start x (at + q)
  stops q b e = let s = rw (part x at) at (rw e at k) in held-stops h.held q b (rw (choice-padded t p l) s.0) (rw (choice-padded t p l) s.1)

  pub within : (q : ℕ) → at < length x → r ≡ Err q → at + q ≤ length x
  within q b e = (stops q b e).within
