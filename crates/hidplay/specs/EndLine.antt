-- The line of JSON that says what ended a file early (RFC 8259; the members: our choice, docs/RECORDINGS.md).
use Rattle.std.specs.Prelude.{ℕ, ◌+◌, ◌-◌, ◌^◌, min, List, [], ◌∷◌, ◌++◌, codes, Option, None, Some}
use Rattle.std.specs.Fmt.{decimal}
use Rattle.json.specs.Token.{Token, begin_object, end_object, key, string, number}
use Rattle.hid_recording.specs.declared.fault.Cause.{Cause}
use Rattle.hid_recording.specs.declared.fault.Cause.TheVariants.{Refused, LineTooLong, Read, Write, Memory, TooManyReads, Unended}
use Rattle.hidplay.specs.declared.fault.FileFault.{FileFault}
use Rattle.hidplay.specs.declared.fault.Why.{Why}
use Rattle.hidplay.specs.declared.fault.Why.TheVariants.{Recording, Capture, Descriptor, Other}
use Rattle.hidplay.specs.FileFault.{place_of_file, why_text}

-- a count of refusals, one more if what ended the file is one, or it can't be read; it stops at the greatest number of 64 bits
abbrev pub with_cause : Cause → ℕ → ℕ
with_cause (Refused refusal) count = min (count + 1) (2 ^ 64 - 1)
with_cause LineTooLong count = min (count + 1) (2 ^ 64 - 1)
with_cause Unended count = min (count + 1) (2 ^ 64 - 1)
with_cause Read count = min (count + 1) (2 ^ 64 - 1)
with_cause Write count = count
with_cause Memory count = count
with_cause TooManyReads count = count

-- a count of refusals, with what ended the file: a capture or a descriptor that can't be read is one more, and so is a file that
-- isn't played
abbrev pub with_why : Why → ℕ → ℕ
with_why (Recording cause) count = with_cause cause count
with_why (Capture cause) count = min (count + 1) (2 ^ 64 - 1)
with_why (Descriptor cause) count = min (count + 1) (2 ^ 64 - 1)
with_why (Other file) count = min (count + 1) (2 ^ 64 - 1)

-- how many lines and frames were refused, with what ended the file
abbrev pub refusals_of : FileFault → ℕ
refusals_of fault = with_why fault.why fault.played.refused

-- a count as a member: "NAME":N
abbrev pub count_tokens : List ℕ → ℕ → List Token
count_tokens name count = key name ∷ number (decimal count) ∷ []

-- where a file ended, as a member: "line":N, or "frame", "byte" or "report"; none at its start
abbrev pub place_tokens : Option (List ℕ × ℕ) → List Token
place_tokens None = []
place_tokens (Some place) = count_tokens place.0 place.1

-- what ended a file, as members: "line":N,"ended":"CODE: WORDS"
abbrev pub cause_tokens : Option (List ℕ × ℕ) → List ℕ → List Token
cause_tokens place words = place_tokens place ++ key (codes "ended") ∷ string words ∷ []

-- what was played, as members: "descriptors":N,"reports":N,"events":N,"refusals":N
abbrev pub played_tokens : FileFault → List Token
played_tokens fault =
    key (codes "descriptors") ∷ number (decimal fault.played.descriptors)
    ∷ key (codes "reports") ∷ number (decimal fault.played.reports)
    ∷ key (codes "events") ∷ number (decimal fault.played.events)
    ∷ key (codes "refusals") ∷ number (decimal (refusals_of fault)) ∷ []

-- what ended a file early, with the system's words after its own, and what was played of it, as a JSON object
unfoldable pub end_tokens : FileFault → List ℕ → List Token
end_tokens fault system =
    begin_object
    ∷ (cause_tokens (place_of_file fault.place) (why_text fault.why ++ system) ++ (played_tokens fault ++ end_object ∷ []))
