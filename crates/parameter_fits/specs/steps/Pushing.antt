-- What is pushed onto a row that is being built.
use Rattle.std.specs.Prelude.{◌≡◌, List, [], ◌∷◌, ◌++◌}
use Rattle.step_values.specs.steps.Building.{Building}
use Rattle.step_values.specs.Values.{Value, Values, none, more}

abbrev pub listed : Values → List Value
listed none = []
listed (more v vs) = v ∷ listed vs

-- one more value is pending: v
abbrev pub Pushes : Building → Building → Value → Type 0
Pushes old new v = new ≡ record old { pending = old.pending ++ v ∷ [] }

-- the values vs are pending in addition
abbrev pub PushesEach : Building → Building → Values → Type 0
PushesEach old new vs = new ≡ record old { pending = old.pending ++ listed vs }
