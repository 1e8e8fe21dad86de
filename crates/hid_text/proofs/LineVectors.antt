-- Worked values of words, each by hand.
use Rattle.std.proofs.Common.{◌≡◌, [], ◌∷◌, ◌++◌, Ok, Err, refl}
use Rattle.std.specs.Prelude.{codes, replicate}
use Rattle.hid_report_descriptor.specs.declared.report.ReportKind.TheVariants.{Output}
use Rattle.hex.specs.Hex.{decode_pairs}
use Rattle.hid_requests.specs.declared.request.Request.TheVariants.{Clear, Configure, EndpointStatus, Idle, SetReport}
use Rattle.hid_text.specs.declared.fault.LineFault.TheVariants.{Syntax}
use Rattle.hid_text.specs.declared.line.Line.TheVariants.{Begin, Step}
use Rattle.hid_text.specs.declared.short.ShortLine.TheVariants.{Halt, Reset}
use Rattle.hid_text.specs.Words.{words_of, hex_of}
use Rattle.hid_text.specs.Numbers.{number_of, byte_of}
use Rattle.hid_text.specs.Arguments.{one_device_meaning}
use Rattle.hid_text.specs.Requests.{bare_request, idle_meaning, set_report_meaning, request_of_words, request_meaning, begin_meaning}
use Rattle.hid_text.specs.Short.{short_meaning}
use Rattle.hid_text.specs.Line.{line_meaning, words_meaning}

-- two words, with a space, a tab and two spaces round them
two_words : words_of (codes " values" ++ 9 ∷ codes "05  ") ≡ codes "values" ∷ codes "05" ∷ []
two_words = refl

-- a host asks its device to be configured
a_request : line_meaning (codes "begin" ∷ codes "1" ∷ codes "configure" ∷ []) ≡ Ok (Begin 1 Configure)
unfolding line_meaning words_meaning begin_meaning request_meaning request_of_words bare_request
a_request = refl

-- 500 ms without a change, of all reports
an_idle_time : request_meaning (codes "idle" ∷ codes "00" ∷ codes "125" ∷ []) ≡ Ok (Idle 0 125)
unfolding request_meaning request_of_words idle_meaning byte_of number_of
an_idle_time = refl

-- the light of Caps Lock
a_light : request_meaning (codes "set-report" ∷ codes "output" ∷ codes "0" ∷ codes "02" ∷ [])
    ≡ Ok (SetReport Output 0 (record { items = 2 ∷ [] }))
unfolding request_meaning request_of_words set_report_meaning byte_of number_of hex_of decode_pairs
a_light = refl

-- 257 bytes and a bad digit: there are too many, whatever they are
a_longer_report : request_meaning
    (codes "set-report" ∷ codes "output" ∷ codes "0" ∷ (replicate 513 48 ++ codes "G") ∷ []) ≡ Err Syntax
unfolding request_meaning request_of_words set_report_meaning byte_of number_of
a_longer_report = refl

-- the seventh device of a bus is reset
a_reset : line_meaning (codes "reset" ∷ codes "7" ∷ []) ≡ Ok (Step (Reset 7))
unfolding line_meaning words_meaning short_meaning one_device_meaning
a_reset = refl

-- a reset takes nothing but its device: there is no eighth, and it is done once
another_reset : line_meaning (codes "reset" ∷ codes "8" ∷ []) ≡ Err Syntax
unfolding line_meaning words_meaning short_meaning one_device_meaning
another_reset = refl

two_resets : line_meaning (codes "reset" ∷ codes "1" ∷ codes "2" ∷ []) ≡ Err Syntax
unfolding line_meaning words_meaning short_meaning one_device_meaning
two_resets = refl

-- the third device of a bus halts its endpoint
a_halt : line_meaning (codes "halt" ∷ codes "3" ∷ []) ≡ Ok (Step (Halt 3))
unfolding line_meaning words_meaning short_meaning one_device_meaning
a_halt = refl

-- a halt is of one device: it isn't a line alone
no_halt : line_meaning (codes "halt" ∷ []) ≡ Err Syntax
unfolding line_meaning words_meaning short_meaning one_device_meaning
no_halt = refl

-- a host ends a halt, and asks whether there is one
a_clear : line_meaning (codes "begin" ∷ codes "2" ∷ codes "clear" ∷ []) ≡ Ok (Begin 2 Clear)
unfolding line_meaning words_meaning begin_meaning request_meaning request_of_words bare_request
a_clear = refl

an_endpoint_status : request_meaning (codes "endpoint-status" ∷ []) ≡ Ok EndpointStatus
unfolding request_meaning request_of_words bare_request
an_endpoint_status = refl

-- neither takes the number of an endpoint
a_clear_of_an_endpoint : request_meaning (codes "clear" ∷ codes "81" ∷ []) ≡ Err Syntax
unfolding request_meaning request_of_words bare_request
a_clear_of_an_endpoint = refl
