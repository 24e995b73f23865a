-- Internal: nothing here has to be believed; laws tie it to what docs/TRUSTED.md lists.
-- The calls that the program makes, with what they return.
use Rattle.pack_rules.specs.Limits.{max_bytes}
use Rattle.pack_rules.specs.Outcome.{Outcome, answers, number_of, reports, value_of, writes}
use Rattle.lower.specs.declared.Returned.{Returned}
use Rattle.activation_rules.specs.Call.{lower_activations}
use Rattle.lower.specs.declared.Calls.{Calls}
use Rattle.lower.specs.declared.Calls.TheVariants.{Both, First}

-- the returned number and value of an outcome
unfoldable pub returned_for : Outcome → Returned
returned_for x = record { number = number_of x; value = value_of x }

-- what is made of the first call's outcome: where it is refused the second is not made, else it is made on the pack that the first wrote;
-- both buffers of a call have as many bytes as a pack may have
unfoldable pub calls_after : Outcome → Calls
calls_after (answers n v) = First (returned_for (answers n v))
calls_after (reports r) = First (returned_for (reports r))
calls_after (writes b) = Both (returned_for (writes b)) (returned_for (lower_activations b max_bytes max_bytes))
