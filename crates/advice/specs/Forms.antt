-- Lines that may be written, set out so that they can be copied: a word in capitals stands for a number.
use Rattle.std.specs.Prelude.{ℕ, List, [], ◌++◌, codes, decimal, ◌==◌, if◌then◌else◌}
use Rattle.text.specs.declared.kind.Kind as kinds
use Rattle.text.specs.declared.kind.Kind.TheVariants as kind
use Rattle.text.specs.declared.stage.Stage as stages
use Rattle.text.specs.declared.stage.Stage.TheVariants as stage

-- what to write where the drives from a place are missing
abbrev pub drives_form : ℕ → List ℕ
drives_form from =
    if from == 0
    then codes "the line below, with tabs between the fields, and for \"..\" the minutes to each further door in turn"
    else
    codes "the line below, with tabs between the fields, \"-\" for door " ++ decimal from
    ++ codes " itself, and for \"..\" the minutes to each further door in turn"

-- what to write where a line has too few fields or too many; such a line is always of one of the five kinds
abbrev pub kind_form : kinds.Kind → List ℕ
kind_form kind.Round =
    codes "one of the lines below, with tabs between the fields and numbers for the words in capitals"
kind_form kind.Drive =
    codes "the line below, with tabs between the fields, \"-\" for the place itself, "
    ++ codes "and for \"..\" the minutes to each further door in turn"
kind_form kind.Other = codes "so many fields, with tabs between them"
kind_form k = codes "the line below, with tabs between the fields and numbers for the words in capitals"

-- what to write where a line is missing
abbrev pub stage_form : stages.Stage → List ℕ
stage_form stage.Head = kind_form kind.Round
stage_form (stage.Doors j) = kind_form kind.Door
stage_form (stage.Drives from) = drives_form from
stage_form stage.Pairs =
    codes "nothing more, or one of the lines below, with tabs between the fields and numbers for the words in capitals"
stage_form stage.Keepers = codes "nothing more, or " ++ kind_form kind.Keeper

-- the lines of that kind
abbrev pub kind_lines : kinds.Kind → List ℕ
kind_lines kind.Round = codes "line: round\tDOORS\tLOAD\tCAP\nline: round\tDOORS\tLOAD\tCAP\tGRID\n"
kind_lines kind.Door = codes "line: door\tNUMBER\tOPENS\tCLOSES\tDUE\tWORK\tCHANGE\n"
kind_lines kind.Drive = codes "line: drive\tPLACE\tMINUTES\t..\n"
kind_lines kind.First = codes "line: first\tEARLIER\tLATER\n"
kind_lines kind.Keeper = codes "line: keeper\tDOOR\tKEEPER\n"
kind_lines kind.Other = []

-- the lines that may stand there
abbrev pub stage_lines : stages.Stage → List ℕ
stage_lines stage.Head = kind_lines kind.Round
stage_lines (stage.Doors j) = codes "line: door\t" ++ decimal j ++ codes "\tOPENS\tCLOSES\tDUE\tWORK\tCHANGE\n"
stage_lines (stage.Drives from) = codes "line: drive\t" ++ decimal from ++ codes "\tMINUTES\t..\n"
stage_lines stage.Pairs = kind_lines kind.First ++ kind_lines kind.Keeper
stage_lines stage.Keepers = kind_lines kind.Keeper
