-- When a state is valid
use Rattle.std.specs.Prelude.{Bool, true, cond, ◌&&◌, ℕ, zero, suc, ◌+◌, get_or, leb, ltb, eqb}
use Rattle.lists.specs.declared.State.{State}

-- A used place names a node below the count; an unused one is 0
unfoldable pub sound_of : State → ℕ → Bool
sound_of s i = cond (ltb i s.depth) (ltb (get_or s.slots i 0) s.nodes) (eqb (get_or s.slots i 0) 0)

-- .. each of the first k
unfoldable pub all_sound : State → ℕ → Bool
all_sound s zero = true
all_sound s (suc k) = all_sound s k && sound_of s k

-- A state is valid over lists with room for so many nodes and so many statements
unfoldable pub valid_of : State → ℕ → ℕ → Bool
valid_of s nodes statements =
    leb s.depth 8 && all_sound s 8 && leb (s.inputs + s.temporaries) s.nodes && leb s.nodes nodes && leb s.statements statements
