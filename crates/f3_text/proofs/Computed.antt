-- The definitions, computed on small texts.
use Rattle.std.proofs.Common.{refl}
use Rattle.f3_text.specs.Examples.{CutsSeveral, CutsComments, CutsReturns, CutsReturnAlone, CutsConstants, CutsContinued, CutsBlankJoin, CutsJoinedQuote, CutsJoinedQuoteOpen, CutsOpen, CutsOpenAtEnd, CutsOpenAtLone, CutsOpenAtPlain, CutsLone, CutsLoneBehind, CutsFirst, CutsElsewhere, CutsLast, CutsBehindMark, CutsNotAllowed, CutsDeep, CutsTooDeep, CutsSo}
use Rattle.f3_text.specs.Lines.{letters, is_line_feed, ends_line, line, lines_below, is_blank, all_blank, is_comment, lines_of, later_lines, is_quote, after, after_all, is_open, text, last_ampersand, first_ampersand}
use Rattle.f3_text.specs.Statements.{alone, listed, onto, join_blank, begun, unfinished, joined, texts, separates, pieces, all_pieces, is_allowed, opens, closes, depth_after, broken, break_at, unclosed, fault_at, depth_in, fault_in, trimmed, spelled, nothing, faulty, with_first, with_statement, unless_fault, parts, then_parts, parts_of, parts_from, cut_of}

cuts_several : CutsSeveral
unfolding letters is_line_feed ends_line line lines_below is_blank all_blank is_comment lines_of later_lines is_quote after after_all is_open text last_ampersand first_ampersand alone listed onto join_blank begun unfinished joined texts separates pieces all_pieces is_allowed opens closes depth_after broken break_at unclosed fault_at depth_in fault_in trimmed spelled nothing faulty with_first with_statement unless_fault parts then_parts parts_of parts_from cut_of
cuts_several = (refl, refl)

cuts_comments : CutsComments
unfolding letters is_line_feed ends_line line lines_below is_blank all_blank is_comment lines_of later_lines is_quote after after_all is_open text last_ampersand first_ampersand alone listed onto join_blank begun unfinished joined texts separates pieces all_pieces is_allowed opens closes depth_after broken break_at unclosed fault_at depth_in fault_in trimmed spelled nothing faulty with_first with_statement unless_fault parts then_parts parts_of parts_from cut_of
cuts_comments = (refl, refl)

cuts_returns : CutsReturns
unfolding letters is_line_feed ends_line line lines_below is_blank all_blank is_comment lines_of later_lines is_quote after after_all is_open text last_ampersand first_ampersand alone listed onto join_blank begun unfinished joined texts separates pieces all_pieces is_allowed opens closes depth_after broken break_at unclosed fault_at depth_in fault_in trimmed spelled nothing faulty with_first with_statement unless_fault parts then_parts parts_of parts_from cut_of
cuts_returns = (refl, refl)

cuts_return_alone : CutsReturnAlone
unfolding letters is_line_feed ends_line line lines_below is_blank all_blank is_comment lines_of later_lines is_quote after after_all is_open text last_ampersand first_ampersand alone listed onto join_blank begun unfinished joined texts separates pieces all_pieces is_allowed opens closes depth_after broken break_at unclosed fault_at depth_in fault_in trimmed spelled nothing faulty with_first with_statement unless_fault parts then_parts parts_of parts_from cut_of
cuts_return_alone = (refl, refl)

cuts_constants : CutsConstants
unfolding letters is_line_feed ends_line line lines_below is_blank all_blank is_comment lines_of later_lines is_quote after after_all is_open text last_ampersand first_ampersand alone listed onto join_blank begun unfinished joined texts separates pieces all_pieces is_allowed opens closes depth_after broken break_at unclosed fault_at depth_in fault_in trimmed spelled nothing faulty with_first with_statement unless_fault parts then_parts parts_of parts_from cut_of
cuts_constants = (refl, refl)

cuts_continued : CutsContinued
unfolding letters is_line_feed ends_line line lines_below is_blank all_blank is_comment lines_of later_lines is_quote after after_all is_open text last_ampersand first_ampersand alone listed onto join_blank begun unfinished joined texts separates pieces all_pieces is_allowed opens closes depth_after broken break_at unclosed fault_at depth_in fault_in trimmed spelled nothing faulty with_first with_statement unless_fault parts then_parts parts_of parts_from cut_of
cuts_continued = (refl, refl)

cuts_blank_join : CutsBlankJoin
unfolding letters is_line_feed ends_line line lines_below is_blank all_blank is_comment lines_of later_lines is_quote after after_all is_open text last_ampersand first_ampersand alone listed onto join_blank begun unfinished joined texts separates pieces all_pieces is_allowed opens closes depth_after broken break_at unclosed fault_at depth_in fault_in trimmed spelled nothing faulty with_first with_statement unless_fault parts then_parts parts_of parts_from cut_of
cuts_blank_join = (refl, refl, refl)

cuts_joined_quote : CutsJoinedQuote
unfolding letters is_line_feed ends_line line lines_below is_blank all_blank is_comment lines_of later_lines is_quote after after_all is_open text last_ampersand first_ampersand alone listed onto join_blank begun unfinished joined texts separates pieces all_pieces is_allowed opens closes depth_after broken break_at unclosed fault_at depth_in fault_in trimmed spelled nothing faulty with_first with_statement unless_fault parts then_parts parts_of parts_from cut_of
cuts_joined_quote = (refl, refl)

cuts_joined_quote_open : CutsJoinedQuoteOpen
unfolding letters is_line_feed ends_line line lines_below is_blank all_blank is_comment lines_of later_lines is_quote after after_all is_open text last_ampersand first_ampersand alone listed onto join_blank begun unfinished joined texts separates pieces all_pieces is_allowed opens closes depth_after broken break_at unclosed fault_at depth_in fault_in trimmed spelled nothing faulty with_first with_statement unless_fault parts then_parts parts_of parts_from cut_of
cuts_joined_quote_open = (refl, refl)

cuts_open : CutsOpen
unfolding letters is_line_feed ends_line line lines_below is_blank all_blank is_comment lines_of later_lines is_quote after after_all is_open text last_ampersand first_ampersand alone listed onto join_blank begun unfinished joined texts separates pieces all_pieces is_allowed opens closes depth_after broken break_at unclosed fault_at depth_in fault_in trimmed spelled nothing faulty with_first with_statement unless_fault parts then_parts parts_of parts_from cut_of
cuts_open = (refl, refl)

cuts_open_at_end : CutsOpenAtEnd
unfolding letters is_line_feed ends_line line lines_below is_blank all_blank is_comment lines_of later_lines is_quote after after_all is_open text last_ampersand first_ampersand alone listed onto join_blank begun unfinished joined texts separates pieces all_pieces is_allowed opens closes depth_after broken break_at unclosed fault_at depth_in fault_in trimmed spelled nothing faulty with_first with_statement unless_fault parts then_parts parts_of parts_from cut_of
cuts_open_at_end = (refl, refl)

cuts_open_at_lone : CutsOpenAtLone
unfolding letters is_line_feed ends_line line lines_below is_blank all_blank is_comment lines_of later_lines is_quote after after_all is_open text last_ampersand first_ampersand alone listed onto join_blank begun unfinished joined texts separates pieces all_pieces is_allowed opens closes depth_after broken break_at unclosed fault_at depth_in fault_in trimmed spelled nothing faulty with_first with_statement unless_fault parts then_parts parts_of parts_from cut_of
cuts_open_at_lone = (refl, refl)

cuts_open_at_plain : CutsOpenAtPlain
unfolding letters is_line_feed ends_line line lines_below is_blank all_blank is_comment lines_of later_lines is_quote after after_all is_open text last_ampersand first_ampersand alone listed onto join_blank begun unfinished joined texts separates pieces all_pieces is_allowed opens closes depth_after broken break_at unclosed fault_at depth_in fault_in trimmed spelled nothing faulty with_first with_statement unless_fault parts then_parts parts_of parts_from cut_of
cuts_open_at_plain = (refl, refl)

cuts_lone : CutsLone
unfolding letters is_line_feed ends_line line lines_below is_blank all_blank is_comment lines_of later_lines is_quote after after_all is_open text last_ampersand first_ampersand alone listed onto join_blank begun unfinished joined texts separates pieces all_pieces is_allowed opens closes depth_after broken break_at unclosed fault_at depth_in fault_in trimmed spelled nothing faulty with_first with_statement unless_fault parts then_parts parts_of parts_from cut_of
cuts_lone = (refl, refl)

cuts_lone_behind : CutsLoneBehind
unfolding letters is_line_feed ends_line line lines_below is_blank all_blank is_comment lines_of later_lines is_quote after after_all is_open text last_ampersand first_ampersand alone listed onto join_blank begun unfinished joined texts separates pieces all_pieces is_allowed opens closes depth_after broken break_at unclosed fault_at depth_in fault_in trimmed spelled nothing faulty with_first with_statement unless_fault parts then_parts parts_of parts_from cut_of
cuts_lone_behind = (refl, refl)

cuts_first : CutsFirst
unfolding letters is_line_feed ends_line line lines_below is_blank all_blank is_comment lines_of later_lines is_quote after after_all is_open text last_ampersand first_ampersand alone listed onto join_blank begun unfinished joined texts separates pieces all_pieces is_allowed opens closes depth_after broken break_at unclosed fault_at depth_in fault_in trimmed spelled nothing faulty with_first with_statement unless_fault parts then_parts parts_of parts_from cut_of
cuts_first = (refl, refl)

cuts_elsewhere : CutsElsewhere
unfolding letters is_line_feed ends_line line lines_below is_blank all_blank is_comment lines_of later_lines is_quote after after_all is_open text last_ampersand first_ampersand alone listed onto join_blank begun unfinished joined texts separates pieces all_pieces is_allowed opens closes depth_after broken break_at unclosed fault_at depth_in fault_in trimmed spelled nothing faulty with_first with_statement unless_fault parts then_parts parts_of parts_from cut_of
cuts_elsewhere = (refl, refl)

cuts_last : CutsLast
unfolding letters is_line_feed ends_line line lines_below is_blank all_blank is_comment lines_of later_lines is_quote after after_all is_open text last_ampersand first_ampersand alone listed onto join_blank begun unfinished joined texts separates pieces all_pieces is_allowed opens closes depth_after broken break_at unclosed fault_at depth_in fault_in trimmed spelled nothing faulty with_first with_statement unless_fault parts then_parts parts_of parts_from cut_of
cuts_last = (refl, refl)

cuts_behind_mark : CutsBehindMark
unfolding letters is_line_feed ends_line line lines_below is_blank all_blank is_comment lines_of later_lines is_quote after after_all is_open text last_ampersand first_ampersand alone listed onto join_blank begun unfinished joined texts separates pieces all_pieces is_allowed opens closes depth_after broken break_at unclosed fault_at depth_in fault_in trimmed spelled nothing faulty with_first with_statement unless_fault parts then_parts parts_of parts_from cut_of
cuts_behind_mark = (refl, refl)

cuts_not_allowed : CutsNotAllowed
unfolding letters is_line_feed ends_line line lines_below is_blank all_blank is_comment lines_of later_lines is_quote after after_all is_open text last_ampersand first_ampersand alone listed onto join_blank begun unfinished joined texts separates pieces all_pieces is_allowed opens closes depth_after broken break_at unclosed fault_at depth_in fault_in trimmed spelled nothing faulty with_first with_statement unless_fault parts then_parts parts_of parts_from cut_of
cuts_not_allowed = (refl, refl)

cuts_deep : CutsDeep
unfolding letters is_line_feed ends_line line lines_below is_blank all_blank is_comment lines_of later_lines is_quote after after_all is_open text last_ampersand first_ampersand alone listed onto join_blank begun unfinished joined texts separates pieces all_pieces is_allowed opens closes depth_after broken break_at unclosed fault_at depth_in fault_in trimmed spelled nothing faulty with_first with_statement unless_fault parts then_parts parts_of parts_from cut_of
cuts_deep = (refl, refl)

cuts_too_deep : CutsTooDeep
unfolding letters is_line_feed ends_line line lines_below is_blank all_blank is_comment lines_of later_lines is_quote after after_all is_open text last_ampersand first_ampersand alone listed onto join_blank begun unfinished joined texts separates pieces all_pieces is_allowed opens closes depth_after broken break_at unclosed fault_at depth_in fault_in trimmed spelled nothing faulty with_first with_statement unless_fault parts then_parts parts_of parts_from cut_of
cuts_too_deep = (refl, refl)

pub cuts_so : CutsSo
cuts_so = (cuts_several, cuts_comments, cuts_returns, cuts_return_alone, cuts_constants, cuts_continued, cuts_blank_join, cuts_joined_quote, cuts_joined_quote_open, cuts_open, cuts_open_at_end, cuts_open_at_lone, cuts_open_at_plain, cuts_lone, cuts_lone_behind, cuts_first, cuts_elsewhere, cuts_last, cuts_behind_mark, cuts_not_allowed, cuts_deep, cuts_too_deep)
