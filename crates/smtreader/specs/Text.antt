-- WHAT READING A TEXT PROMISES: the nodes that it says, or the place from which no text can follow.
use Rattle.std.specs.Prelude.{◌≡◌, refl, List, ◌++◌, ℕ, ◌*◌, ◌≤◌, ◌<◌, length, drop, Option, Some, None, Result, Ok, Err}
use Rattle.std.proofs.Common.{sym, ap, ◌∙◌, arith}
use Rattle.viable.specs.Runs.{Stops, only, never, one_place}
use Rattle.lists.specs.Rows.{room_of}
use Rattle.smtgrammar.specs.State.{State, start}
use Rattle.smtgrammar.specs.Grammar.{Token, done, Reads}
use Rattle.smtgrammar.specs.Rows.{rows_below}
use Rattle.smtlive.specs.Apart.{apart}
use Rattle.smtlive.specs.Full.{full}
use Rattle.smtreader.specs.declared.ReadError.{ReadError}
use Rattle.smtreader.specs.declared.ReadError.TheVariants as read_error

-- n nodes, which fit
pub record Rows (x old : List ℕ) (n : ℕ) (new : List ℕ) : Type 0 where
  pub last : State
  pub reads : Reads x last
  pub count : n ≡ last.place.count
  pub fits : n ≤ room_of (length old)
  pub nodes : new ≡ rows_below last.tables 65535 ++ drop (4 * n) old

-- more nodes than there is room for
pub record Full (x old new : List ℕ) : Type 0 where
  pub last : State
  pub reads : Reads x last
  pub many : room_of (length old) < last.place.count
  pub nodes : new ≡ old

pub record Stopped (x old : List ℕ) (p : ℕ) (new : List ℕ) : Type 0 where
  pub stops : Stops Token done start x p
  pub nodes : new ≡ old

abbrev pub ReadsText : List ℕ → List ℕ → Result ℕ ReadError → List ℕ → Type 0
ReadsText x old (Ok n) new = Rows x old n new
ReadsText x old (Err (read_error.Stop p)) new = Stopped x old p new
ReadsText x old (Err read_error.Room) new = Full x old new

-- what columns of n entries make of a text: what reading it promises; or they are too short, and nothing is written
abbrev pub TriesText : List ℕ → List ℕ → ℕ → Option (Result ℕ ReadError) → List ℕ → Type 0
TriesText x old n (Some r) new = ReadsText x old r new
TriesText x old n None new = (n < 65536) × (new ≡ old)

module _ {x : List ℕ} where
  same : {ω ψ : State} → Reads x ω → Reads x ψ → ω ≡ ψ
  same {ω} {ψ} r s = only Token done full apart start ω ψ x r s

  same_count : {ω ψ : State} → Reads x ω → Reads x ψ → ω.place.count ≡ ψ.place.count
  same_count r s = ap (λ (σ : State). σ.place.count) (same r s)

  stopped : {ω : State} {p : ℕ} → Reads x ω → Stops Token done start x p → ⊥
  stopped {ω} {p} r s = never Token done start x p s ω r

  place : {p q : ℕ} → Stops Token done start x p → Stops Token done start x q → p ≡ q
  place {p} {q} s t =
      let h : p < q → ⊥ = one_place Token done start x p q s t in
      let k : q < p → ⊥ = one_place Token done start x q p t s in
      omega arith

-- ONE READING: a text, and what the nodes were, fix the answer and what the nodes are
pub one-reading : (x old l m : List ℕ) (a b : Result ℕ ReadError) → ReadsText x old a l → ReadsText x old b m → (a ≡ b) × (l ≡ m)
one-reading x old l m (Ok n) (Ok k) p q =
    let e : n ≡ k = p.count ∙ same_count p.reads q.reads ∙ sym q.count in
    (rw e, p.nodes ∙ rw (e, same p.reads q.reads) (sym q.nodes))
one-reading x old l m (Ok n) (Err (read_error.Stop k)) p q = absurd (stopped p.reads q.stops)
one-reading x old l m (Ok n) (Err read_error.Room) p q =
    let e = same_count p.reads q.reads in
    let f = p.count in
    let g = p.fits in
    let h = q.many in
    absurd (omega arith)
one-reading x old l m (Err (read_error.Stop n)) (Ok k) p q = absurd (stopped q.reads p.stops)
one-reading x old l m (Err (read_error.Stop n)) (Err (read_error.Stop k)) p q = (rw (place p.stops q.stops), p.nodes ∙ sym q.nodes)
one-reading x old l m (Err (read_error.Stop n)) (Err read_error.Room) p q = absurd (stopped q.reads p.stops)
one-reading x old l m (Err read_error.Room) (Ok k) p q =
    let e = same_count p.reads q.reads in
    let f = q.count in
    let g = q.fits in
    let h = p.many in
    absurd (omega arith)
one-reading x old l m (Err read_error.Room) (Err (read_error.Stop k)) p q = absurd (stopped p.reads q.stops)
one-reading x old l m (Err read_error.Room) (Err read_error.Room) p q = (refl, p.nodes ∙ sym q.nodes)
