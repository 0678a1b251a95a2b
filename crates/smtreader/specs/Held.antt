-- What a loop over the tokens keeps: the state is live, sound and counted, and what is left of the text decides for the whole.
use Rattle.std.specs.Prelude.{◌≡◌, refl, Bool, true, false, List, ℕ, ◌+◌, ◌-◌, ◌≤◌, ◌<◌, length, take, drop}
use Rattle.std.proofs.Common.{⊎_elim, arith, length-drop, drop_of_length-le, take_all}
use Rattle.viable.specs.Grammar.{Some, Got, Bad, leads-got, leads-bad}
use Rattle.viable.specs.Runs.{end, Stops, Carries, carries-start, carries-on, token-stops, end-stops, more-stops}
use Rattle.smtgrammar.specs.State.{State, start}
use Rattle.smtgrammar.specs.Allowed.{ok_at}
use Rattle.smtgrammar.specs.Tokens.{text_at}
use Rattle.smtgrammar.specs.Next.{next_at}
use Rattle.smtgrammar.specs.Grammar.{size_at, Choice, Token, done, Reads}
use Rattle.smtlive.specs.Live.{Live}
use Rattle.smtlive.specs.Apart.{apart}
use Rattle.smtlive.specs.Full.{full}
use Rattle.smtlive.specs.Step.{live-next}
use Rattle.smtlive.specs.Goes.{live-start, some, goes, token-goes}
use Rattle.smtsound.specs.Lines.{Sound}
use Rattle.smtsound.specs.Steps.{kept_on, sound-start}
use Rattle.smttokens.specs.Taken.{decided}
use Rattle.smtreader.specs.Counted.{Counted, counted_next, counted_start}

abbrev pub stepped : State → ℕ → State
stepped σ v = next_at σ.tables σ.place σ.line v

pub record Held (x : List ℕ) (σ : State) (at : ℕ) : Type 0 where
  pub live : Live σ
  pub sound : Sound σ
  pub counted : Counted σ
  pub carries : Carries Token done start x σ at

pub held_start : (x : List ℕ) → Held x start 0
held_start x = record { live = live-start; sound = sound-start; counted = counted_start; carries = carries-start Token done start x }

-- what is left of a text, as a part of it
pub part : (x : List ℕ) (at : ℕ) → take (length x - at) (drop at x) ≡ drop at x
part x at = take_all (length x - at) (drop at x) (omega (arith, length-drop at x))

module _ {x : List ℕ} {σ : State} {at : ℕ} (h : Held x σ at) where
  -- a token that is there
  module _ (v n : ℕ) (g : Got (Choice σ) (drop at x) v n) where
    token : Got (Token σ) (drop at x) (stepped σ v) n
    token = leads-got (Choice σ) (next_at σ.tables σ.place σ.line) (drop at x) v n g

    pub held_on : Held x (stepped σ v) (at + n)
    held_on = record {
      live = live-next σ g.text v h.live g.is;
      sound = kept_on σ (stepped σ v) token.text h.sound token.is;
      counted = counted_next σ v h.sound h.counted;
      carries = carries-on Token done full apart start σ (stepped σ v) x at n h.carries token;
    }

    -- .. takes some of the bytes
    pub held_more : 0 < n
    held_more = let b = full σ (stepped σ v) token.text token.is in let l = token.long in omega arith

    pub held-inside : at + n ≤ length x
    held-inside = held_on.carries.inside

  -- no token is there
  pub held-stops : (q : ℕ) → at < length x → (Some (Choice σ) → Bad (Choice σ) (drop at x) q) → ((Some (Choice σ) → ⊥) → q ≡ 0) → Stops Token done start x (at + q)
  held-stops q l bad shut = h.carries.stops q (go (done σ) refl)
    where
      left : 0 < length (drop at x)
      left = omega (arith, length-drop at x)

      stopped : Some (Choice σ) → Stops Token done σ (drop at x) q
      stopped s =
          token-stops Token done σ (drop at x) q left (λ t τ m. token-goes σ h.live t τ m)
          (leads-bad (Choice σ) (next_at σ.tables σ.place σ.line) (drop at x) q (bad s))

      go : (b : Bool) → done σ ≡ b → Stops Token done σ (drop at x) q
      go false e = stopped (some σ h.live e)
      go true e =
          ⊎_elim stopped
          (λ none. rw (shut none) (more-stops Token done σ (drop at x) left e (λ t τ m. none (record { text = t; value = m.value; is = m.is }))))
          (decided (size_at σ.line.stage) (ok_at σ.tables σ.place σ.line) (text_at σ.tables σ.place σ.line))

  -- the text ends
  pub held_reads : length x ≤ at → done σ ≡ true → Reads x σ
  held_reads l e = h.carries.reads σ (rw (drop_of_length-le x l) (end e))

  pub held-ends : length x ≤ at → done σ ≡ false → Stops Token done start x at
  held-ends l e =
      let z : at + 0 ≡ at = omega arith in
      rw z at (h.carries.stops 0 (rw (drop_of_length-le x l) (end-stops Token done full σ e (goes σ h.live))))
