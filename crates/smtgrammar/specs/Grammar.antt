-- THE GRAMMAR: a text is a run of choices, each of which lets a text follow, from nothing to an end that is whole.
use Rattle.std.specs.Prelude.{Bool, cond, ◌&&◌, List, ℕ, leb, eqb}
use Rattle.viable.specs.Grammar.{Gram, Leads}
use Rattle.viable.specs.Family.{Member}
use Rattle.viable.specs.Runs.{Runs}
use Rattle.smtgrammar.specs.State.{limit, State, start}
use Rattle.smtgrammar.specs.Allowed.{ok_at}
use Rattle.smtgrammar.specs.Tokens.{text_at}
use Rattle.smtgrammar.specs.Next.{next_at}

-- how many choices a stage has
unfoldable pub size_at : ℕ → ℕ
size_at stage =
    cond (eqb stage 0) 3
    (cond (eqb stage 1) limit
    (cond (eqb stage 2) 27
    (cond (eqb stage 3) limit
    (cond (eqb stage 4) 11
    (cond (eqb stage 5) 81
    (cond (eqb stage 6) limit
    (cond (eqb stage 7) 3905
    (cond (eqb stage 8) 28
    (cond (eqb stage 9) 65539
    (cond (leb stage 12) 65536
    (cond (eqb stage 13) 80
    (cond (eqb stage 14) 2 1))))))))))))

-- the choices of a state, and what each leads to
abbrev pub Choice : State → Gram ℕ
Choice σ = Member (size_at σ.line.stage) (ok_at σ.tables σ.place σ.line) (text_at σ.tables σ.place σ.line)

abbrev pub Token : State → Gram State
Token σ = Leads (Choice σ) (next_at σ.tables σ.place σ.line)

-- some node is there, none is obliged, and no assertion is due
abbrev pub done : State → Bool
done σ = (eqb σ.line.stage 0 && leb 1 σ.place.count) && (eqb σ.place.owed limit && eqb σ.place.due limit)

-- the texts that leave the state ω
abbrev pub Reads : List ℕ → State → Type 0
Reads x ω = Runs Token done start x ω
