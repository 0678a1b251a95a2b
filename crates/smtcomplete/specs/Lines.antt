-- A part of a text that leads from one state to another, token by token.
use Rattle.std.specs.Prelude.{◌≡◌, refl, true, List, [], ◌++◌, ℕ, ◌<◌}
use Rattle.std.proofs.Common.{append_assoc}
use Rattle.viable.specs.Runs.{Runs, on}
use Rattle.smtgrammar.specs.declared.Place.{Place}
use Rattle.smtgrammar.specs.declared.Line.{Line}
use Rattle.smtgrammar.specs.State.{Tables, State, no_line}
use Rattle.smtgrammar.specs.Allowed.{ok_at}
use Rattle.smtgrammar.specs.Tokens.{text_at}
use Rattle.smtgrammar.specs.Next.{next_at}
use Rattle.smtgrammar.specs.Grammar.{size_at, Token, done}

-- the state between two lines
abbrev pub between : Tables → Place → State
between t p = record { tables = t; place = p; line = no_line }

-- whatever goes on from σ' goes on from σ behind the text x
pub record Reach (σ : State) (x : List ℕ) (σ' : State) : Type 0 where
  pub then : (u : List ℕ) (ω : State) → Runs Token done σ' u ω → Runs Token done σ (x ++ u) ω

pub stay : (σ : State) → Reach σ [] σ
stay σ = record { then = λ u ω r. r }

pub both : {σ σ' ρ : State} {x y : List ℕ} → Reach σ x σ' → Reach σ' y ρ → Reach σ (x ++ y) ρ
both {x} {y} a b = record { then = λ u ω r. rw append_assoc (a.then (y ++ u) ω (b.then u ω r)) }

-- one token
pub token : (t : Tables) (p : Place) (l : Line) (v : ℕ) → v < size_at l.stage → ok_at t p l v ≡ true
    → Reach (record { tables = t; place = p; line = l }) (text_at t p l v) (next_at t p l v)
token t p l v h k =
    record {
      then = λ u ω r.
          on (text_at t p l v) u refl
          (record { value = v; is = record { below = h; allowed = k; is = refl }; to = refl }) r;
    }

-- the text x leads to a place of which I holds
pub record Moves (I : Tables → Place → Type 0) (t : Tables) (p : Place) (x : List ℕ) : Type 0 where
  pub tables : Tables
  pub place : Place
  pub reach : Reach (between t p) x (between tables place)
  pub is : I tables place
