-- What text makes of the front of another that takes it.
use Rattle.std.specs.Prelude.{◌≡◌, refl, List, [], ◌++◌, ℕ, Result, Ok, Err}
use Rattle.std.proofs.Common.{◌∙◌}
use Rattle.writing.specs.Sink.{SinkLaws}
use Rattle.smttokens.specs.Matches.{Extends, then, stops, nothing}
use Rattle.smttokens.specs.declared.matching.Front.{Front}

-- from the place where what is before ends; where not all of that was there, nothing changes
abbrev pub Goes : List ℕ → List ℕ → Result ℕ ℕ → Result ℕ ℕ → Type 0
Goes a x (Ok at) r = Extends a x at r
Goes a x (Err far) r = r ≡ Err far

pub record Follows (a : List ℕ) (old new : Front) : Type 0 where
  pub goes : Goes a old.text.now old.end new.end
  pub same : new.text ≡ old.text

none : (x : List ℕ) (r : Result ℕ ℕ) → Goes [] x r r
none x (Ok at) = nothing
none x (Err far) = refl

both : (a b x : List ℕ) (r s t : Result ℕ ℕ) → Goes a x r s → Goes b x s t → Goes (a ++ b) x r t
both a b x (Ok at) (Ok p) t e f = then e f
both a b x (Ok at) (Err far) t e f = rw f (stops b e)
both a b x (Err far) s t e f = rw e at f

pub front_laws : SinkLaws Follows
front_laws = record {
  nothing = λ s. record { goes = none s.text.now s.end; same = refl };
  then = λ {a} {b} {s} {t} {u} e f. record { goes = both a b s.text.now s.end t.end u.end e.goes (rw e.same at f.goes); same = f.same ∙ e.same };
}
