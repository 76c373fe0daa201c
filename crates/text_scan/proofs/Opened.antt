-- The definitions of a scan opened at once, for laws that compute: `unfolding scan-opened`.
use Rattle.text_tokens.specs.KindsCode.{kind_of, word_kind, mark_kind, place_from}
use Rattle.text_scan.specs.ScanCode.{ends_part, is_type_kind, is_none, less_one, mode_within, mode_after, braces_after, name_role, brace_role, role, with_event}

unfoldable pub scan-opened : Unit {0}
unfolding kind_of word_kind mark_kind place_from ends_part is_type_kind is_none less_one mode_within mode_after braces_after
    name_role brace_role role with_event
scan-opened = tt
