use Rattle.population_pins.proofs.lists.UniqueLists.add.Goals as goal

pub invariant_of-self : goal.invariant_of-self
invariant_of-self c = c.push_list.ensures.within c.self.invariant

pub returns : goal.returns
returns c = rw (← c.self.view_is) (c.push_list.ensures.lists c.self.invariant)
