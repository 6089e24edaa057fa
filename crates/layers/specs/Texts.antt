-- What is printed of a notice, a refusal and the reply to a call. Assumes nothing.
use Rattle.std.specs.Prelude.{ℕ, List, ◌++◌, Some, Ok, Err, codes, decimal, Option, Result}
use Rattle.std.specs.Fmt.{◌++?◌}
use Rattle.layers.specs.Notices.{refusal_number}
use Rattle.layers.specs.declared.notices.Notice.{Notice}
use Rattle.layers.specs.declared.notices.refusals.Refusal.{Refusal}

abbrev pub notice_text : Notice → List ℕ
notice_text n = codes "gate " ++ (decimal n.gate ++ (codes " from " ++ (decimal n.begin ++ (codes " to " ++ decimal n.end))))

abbrev pub refusal_text : Refusal → List ℕ
refusal_text f = decimal (refusal_number f)

-- a reply: what is printed of what was done, or `declined` and what is printed of the refusal
abbrev pub reply_text : {T E : Type 0} → (T → Option (List ℕ)) → (E → Option (List ℕ)) → Result T E → Option (List ℕ)
reply_text done refusal (Ok x) = done x
reply_text done refusal (Err f) = Some (codes "declined ") ++? refusal f
