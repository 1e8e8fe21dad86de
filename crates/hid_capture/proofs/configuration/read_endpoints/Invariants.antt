use Rattle.std.proofs.Common.{length, None}
use Rattle.hid_capture.specs.Descriptors.{endpoints_in}
use Rattle.hid_capture.proofs.ConfigurationLemmas.{Finds}
use Rattle.hid_capture.proofs.configuration.read_endpoints.Given as goal

-- what was found, and what is left, are all endpoints
abbrev pub invariant-descriptors : goal.invariant-descriptors
invariant-descriptors l = Finds l.configuration l.here l.rest l.found.items (endpoints_in (length l.bytes) l.configuration None l.bytes)

abbrev pub decreases-descriptors : goal.decreases-descriptors
decreases-descriptors l = length l.rest
