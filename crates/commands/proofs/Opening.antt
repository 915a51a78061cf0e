-- Which files are opened.
use Rattle.std.proofs.Common.{◌≡◌, List, [], ◌∷◌, ◌++◌, ℕ, Option, None, Some, inl, inr, ap, subst, sym, ◌∙◌}
use Rattle.std.proofs.lemmas.List.{append-nil, append_assoc}
use Rattle.command_line.specs.Requests.{AskFor}
use Rattle.command_line.specs.declared.command_words.Request.{Request}
use Rattle.files.specs.Stores.{Access, Opens}
use Rattle.commands.specs.CommandLines.{OpensAsked}
use Rattle.commands.specs.Endings.{Output}
use Rattle.commands.specs.steps.ComputedRequests.{OpensUnlessMemory, command_of, given_of, opened_by}
use Rattle.commands.proofs.Requested.{asks_for}

-- nothing is opened
pub opens_none : (old : Option (List Access)) → Opens old old []
opens_none None = tt
opens_none (Some before) = ap Some (sym (append-nil before))

-- what is opened behind what was opened
pub opens_then : (a b c : Option (List Access)) (xs ys : List Access) → Opens a b xs → Opens b c ys
    → Opens a c (xs ++ ys)
opens_then None b c xs ys first second = tt
opens_then (Some before) b c xs ys first second =
    subst (λ o. Opens o c ys) first second ∙ ap Some (append_assoc before xs ys)

-- what a store opens, step by step, where its state goes through these
module _ {S : Type 0} (opened : S → Option (List Access)) where
  pub opens_two : (o p q : S) (x y : Access) → Opens (opened o) (opened p) (x ∷ [])
      → Opens (opened p) (opened q) (y ∷ []) → Opens (opened o) (opened q) (x ∷ y ∷ [])
  opens_two o p q x y = opens_then (opened o) (opened p) (opened q) (x ∷ []) (y ∷ [])

  pub opens_four : (o p q r s : S) (w x y z : Access) → Opens (opened o) (opened p) (w ∷ [])
      → Opens (opened p) (opened q) (x ∷ []) → Opens (opened q) (opened r) (y ∷ [])
      → Opens (opened r) (opened s) (z ∷ []) → Opens (opened o) (opened s) (w ∷ x ∷ y ∷ z ∷ [])
  opens_four o p q r s w x y z first second third fourth = opens_then (opened o) (opened q) (opened s)
      (w ∷ x ∷ []) (y ∷ z ∷ []) (opens_two o p q w x first second) (opens_two q r s y z third fourth)

  -- four files are opened, and two of them are taken back
  pub opens_six : (o p q r s t u : S) (w x y z a b : Access) → Opens (opened o) (opened p) (w ∷ [])
      → Opens (opened p) (opened q) (x ∷ []) → Opens (opened q) (opened r) (y ∷ [])
      → Opens (opened r) (opened s) (z ∷ []) → Opens (opened s) (opened t) (a ∷ [])
      → Opens (opened t) (opened u) (b ∷ []) → Opens (opened o) (opened u) (w ∷ x ∷ y ∷ z ∷ a ∷ b ∷ [])
  opens_six o p q r s t u w x y z a b first second third fourth fifth sixth =
      opens_then (opened o) (opened s) (opened u) (w ∷ x ∷ y ∷ z ∷ []) (a ∷ b ∷ [])
      (opens_four o p q r s w x y z first second third fourth) (opens_two s t u a b fifth sixth)

-- what is opened for a request that is this one
pub request_opens : (request is : Request) (old new : Option (List Access)) (err : Output) (status : ℕ)
    → is ≡ request → OpensUnlessMemory old new (opened_by is) err status
    → OpensUnlessMemory old new (opened_by request) err status
request_opens request is old new err status same opens =
    subst (λ asked. OpensUnlessMemory old new (opened_by asked) err status) same opens

pub asked_opens : (words : List (List ℕ)) (request : Request) (old new : Option (List Access)) (err : Output)
    (status : ℕ) → AskFor words request → OpensUnlessMemory old new (opened_by request) err status
    → OpensAsked words old new err status
asked_opens words request old new err status asks (inr none) = inr (none.0, inr none.1)
asked_opens words request old new err status asks (inl opens) =
    inl (command_of request, given_of request, asks_for words request asks, opens)
