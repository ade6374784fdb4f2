-- The codes that are no rules: for each its name, and the text that explains it. (Profile.)
use Rattle.std.specs.Prelude.{ℕ, Option, List, [], ◌∷◌, ◌++◌, codes, find}
use Rattle.std.specs.Str.{bytes_eq}
use Rattle.vme_rulebook.specs.declared.codes.Code.{Code}
use Rattle.vme_rulebook.specs.declared.codes.Code.TheVariants.{E3, E4, F1, F2, F3, F4, F5, F6, L3, L4, L6, P1, P2, P3, P4, P5, P6, P7, P8, P9, Q1, Q2, Q3, Q4, Q6, X1, X2, X3, X4, X5, X6, X8, X9, X10, X11, X12, X13, X14, X15, X16, X17}

-- all of them
unfoldable pub all_codes : List Code
all_codes =
    E3 ∷ E4 ∷ F1 ∷ F2 ∷ F3 ∷ F4 ∷ F5 ∷ F6 ∷ L3 ∷ L4 ∷ L6 ∷ P1 ∷ P2 ∷ P3 ∷ P4 ∷ P5 ∷ P6 ∷ P7 ∷ P8
    ∷ P9 ∷ Q1 ∷ Q2 ∷ Q3 ∷ Q4 ∷ Q6 ∷ X1 ∷ X2 ∷ X3 ∷ X4 ∷ X5 ∷ X6 ∷ X8 ∷ X9 ∷ X10 ∷ X11 ∷ X12 ∷ X13
    ∷ X14 ∷ X15 ∷ X16 ∷ X17 ∷ []

abbrev pub code_name : Code → List ℕ
code_name E3 = codes "E3"
code_name E4 = codes "E4"
code_name F1 = codes "F1"
code_name F2 = codes "F2"
code_name F3 = codes "F3"
code_name F4 = codes "F4"
code_name F5 = codes "F5"
code_name F6 = codes "F6"
code_name L3 = codes "L3"
code_name L4 = codes "L4"
code_name L6 = codes "L6"
code_name P1 = codes "P1"
code_name P2 = codes "P2"
code_name P3 = codes "P3"
code_name P4 = codes "P4"
code_name P5 = codes "P5"
code_name P6 = codes "P6"
code_name P7 = codes "P7"
code_name P8 = codes "P8"
code_name P9 = codes "P9"
code_name Q1 = codes "Q1"
code_name Q2 = codes "Q2"
code_name Q3 = codes "Q3"
code_name Q4 = codes "Q4"
code_name Q6 = codes "Q6"
code_name X1 = codes "X1"
code_name X2 = codes "X2"
code_name X3 = codes "X3"
code_name X4 = codes "X4"
code_name X5 = codes "X5"
code_name X6 = codes "X6"
code_name X8 = codes "X8"
code_name X9 = codes "X9"
code_name X10 = codes "X10"
code_name X11 = codes "X11"
code_name X12 = codes "X12"
code_name X13 = codes "X13"
code_name X14 = codes "X14"
code_name X15 = codes "X15"
code_name X16 = codes "X16"
code_name X17 = codes "X17"

-- a code with the text that follows it, what it means, what usually causes it, and what to do
abbrev pub code_text : Code → List ℕ
code_text E3 =
    codes "E3 Gk\n"
    ++ codes "The edge's own rule Gk refuses it, because a condition of the rule does not\n"
    ++ codes "hold. `vmebus explain` prints which conditions fail and the wires that they\n"
    ++ codes "depend on. `vmebus rule` with the name of the rule, such as `vmebus rule G13`,\n"
    ++ codes "prints all of its conditions, and whether the standard asks for each.\n"
code_text E4 =
    codes "E4 Sk\n"
    ++ codes "The edge's own rule holds, but its settling rule Sk does not: an edge of another\n"
    ++ codes "driver has to happen first. `vmebus explain` prints the wires that the settling\n"
    ++ codes "rule depends on, and `vmebus rule` with its name, such as `vmebus rule S1`,\n"
    ++ codes "prints what it asks for.\n"
code_text F1 =
    codes "F1 cannot read NAME\n"
    ++ codes "A scenario or trace file does not open, or a scenario cannot be read to its end.\n"
    ++ codes "Usually the name is misspelled, you may not read the file, or it is a folder:\n"
    ++ codes "`ls -l NAME` shows which. If NAME is `-`, standard input failed, or `-` was\n"
    ++ codes "written for it: write `/dev/stdin`.\n"
code_text F2 =
    codes "F2 NAME is too long\n"
    ++ codes "A scenario has more than 1,048,576 bytes. Usually the trace was named in its\n"
    ++ codes "place: SCENARIO is the first file name, and TRACE the second.\n"
code_text F3 =
    codes "F3 no memory\n"
    ++ codes "There is no memory for the command itself. Usually a limit of memory, such as\n"
    ++ codes "`ulimit -v`, is too low: raise it.\n"
code_text F4 =
    codes "F4 word N is not UTF-8\n"
    ++ codes "The N-th argument after the program's name, counted from 1, is not UTF-8. If\n"
    ++ codes "there are several, it is the first. Usually a file name has another encoding,\n"
    ++ codes "such as Latin-1: rename the file, or read it from `/dev/stdin`.\n"
code_text F5 =
    codes "F5 too many orders\n"
    ++ codes "From `order`: no legal order was found, and there are too many to say that there\n"
    ++ codes "is none. Usually drivers have more slack than the design has, a moment holds\n"
    ++ codes "many clocks, or an edge is listed at least 128 edges after one that waits for\n"
    ++ codes "it. Give less slack, each clock a moment of its own, and each edge a moment\n"
    ++ codes "closer to its time. From `probe --skew S`: a sample has more than 12 changes.\n"
    ++ codes "Usually S is too great, or the analyser too slow. Take the least S that is\n"
    ++ codes "right, or sample faster.\n"
code_text F6 =
    codes "F6 more than 1048576 edges\n"
    ++ codes "Moments have at most 1,048,576 edges, refused ones included, and these have\n"
    ++ codes "more; the line is not reported. Usually the run is long: start another file at a\n"
    ++ codes "moment at which every wire is high or off.\n"
code_text L3 =
    codes "L3 the boards could not be started\n"
    ++ codes "`run` has no memory for the list of its boards' records. Usually a limit of\n"
    ++ codes "memory, such as `ulimit -v`, is too low: raise it.\n"
code_text L4 =
    codes "L4 the log of DRIVER differs at N\n"
    ++ codes "`run` compares the record that DRIVER (`c` or a slot) kept of its own edges with\n"
    ++ codes "the trace, and they differ from its edge N on, counted from 0. This is not\n"
    ++ codes "expected. No scenario should cause it: report it with the scenario and the\n"
    ++ codes "command.\n"
code_text L6 =
    codes "L6 the history is refused at N\n"
    ++ codes "`run` judges its trace a second time, and edge N, counted from 0, was refused.\n"
    ++ codes "It is proved that this never happens. Suspect the machine or the build of the\n"
    ++ codes "program, and report it with the scenario and the command.\n"
code_text P1 =
    codes "P1 slot 1 is empty\n"
    ++ codes "Slot 1 has no board, although the arbiter is on the board in slot 1. Usually the\n"
    ++ codes "boards begin with slot 2: describe a board in slot 1 too.\n"
code_text P2 =
    codes "P2 N slots, at most 21\n"
    ++ codes "`slots` is above 21, the most that a backplane can have. Usually the number is\n"
    ++ codes "mistyped, or the scenario describes two backplanes: correct the number, or write\n"
    ++ codes "a scenario for each backplane.\n"
code_text P3 =
    codes "P3 slot S is named twice\n"
    ++ codes "Two boards, two jumpers, or a board and a jumper have the same slot. Usually a\n"
    ++ codes "slot with a board has a jumper as well. Delete that jumper, since a board joins\n"
    ++ codes "the chains that it does not work, and give each board a slot of its own.\n"
code_text P4 =
    codes "P4 slot S breaks chain C\n"
    ++ codes "Empty slot S does not join chain C, which is `bg0` to `bg3` or `iack`, and a\n"
    ++ codes "board in a higher slot works it. Usually the slot has no jumper, or a jumper\n"
    ++ codes "with too few chains. Give each empty slot a jumper with all five:\n"
    ++ codes "`chains = [\"bg0\", \"bg1\", \"bg2\", \"bg3\", \"iack\"]`.\n"
code_text P5 =
    codes "P5 slot S requests a level that SGL does not serve\n"
    ++ codes "The arbiter is `\"sgl\"`, which serves level 3 alone, and the requester in slot S\n"
    ++ codes "is on another level. Write `level = 3`, or take another arbiter.\n"
code_text P6 =
    codes "P6 interrupt level L has two handlers\n"
    ++ codes "Two boards handle interrupt level L, and a level can have one handler only.\n"
    ++ codes "Leave L in the `handler` of one board, and delete it from the other.\n"
code_text P7 =
    codes "P7 the handler in slot S has no requester\n"
    ++ codes "A board has a handler and no requester. A handler acknowledges as a master, and\n"
    ++ codes "so it needs the bus. Give the board a `requester`.\n"
code_text P8 =
    codes "P8 FIELD is out of range\n"
    ++ codes "A number in the scenario is out of its range, such as `level = 4` of a\n"
    ++ codes "requester, `burst = 0`, or a board beyond `slots`. If there are several, `slots`\n"
    ++ codes "is reported first, then the boards, and then the jumpers, in the order of the\n"
    ++ codes "file. Write a number in its range.\n"
code_text P9 =
    codes "P9 no memory\n"
    ++ codes "Memory ran out while the backplane was made from the scenario. Usually a limit\n"
    ++ codes "of memory, such as `ulimit -v`, is too low: raise it.\n"
code_text Q1 =
    codes "Q1 the scenario is not TOML\n"
    ++ codes "The scenario is not UTF-8, is not TOML, or is beyond a limit of TOML; the line\n"
    ++ codes "is not reported. Usually a word has no quotes, as in `arbiter = pri`, a table\n"
    ++ codes "has a key twice, `[board]` is written for `[[board]]`, or the trace was named in\n"
    ++ codes "its place. Correct the text, or convert it to UTF-8, and name SCENARIO before\n"
    ++ codes "TRACE.\n"
code_text Q2 =
    codes "Q2 unknown key KEY\n"
    ++ codes "A table of the scenario has a key that it cannot have. Usually the key is\n"
    ++ codes "misspelled, as `[[boards]]` is, or it is a note, such as `name = \"cpu\"`, or it\n"
    ++ codes "is `burst` beside `release = \"ror\"`. Correct or delete the key, and write a note\n"
    ++ codes "as a comment, `# cpu`.\n"
code_text Q3 =
    codes "Q3 missing key KEY\n"
    ++ codes "A table of the scenario lacks a key that it needs. Usually `slots` or `arbiter`\n"
    ++ codes "is written below `[[board]]`, so that it is a key of that board, or\n"
    ++ codes "`release = \"rwd\"` has no `burst` beside it. Write the key, and write all keys of\n"
    ++ codes "the top table first.\n"
code_text Q4 =
    codes "Q4 bad value of KEY\n"
    ++ codes "The key has a value of another type than it needs, a word that is not in its\n"
    ++ codes "list, a number below 0 or above 255, or a handler level outside 1 to 7. Usually\n"
    ++ codes "a word is in capitals, as in `arbiter = \"PRI\"`, a number has quotes or a point,\n"
    ++ codes "a list has no brackets, as in `handler = 4`, or `[board]` is written for\n"
    ++ codes "`[[board]]`. Correct the value.\n"
code_text Q6 =
    codes "Q6 no memory\n"
    ++ codes "Memory ran out while the scenario was read. Usually a limit of memory, such as\n"
    ++ codes "`ulimit -v`, is too low: raise it.\n"
code_text X1 =
    codes "X1 the trace does not begin with vme 1 or vme 2\n"
    ++ codes "The first line of the trace is complete and not a header, or there is no byte at\n"
    ++ codes "all. Usually the header is missing or misspelled, another line is above it, or\n"
    ++ codes "the file has CRLF line ends, a byte order mark or the encoding UTF-16. Write\n"
    ++ codes "`vme 1` or `vme 2` as the whole first line, in ASCII, and end each line with a\n"
    ++ codes "line feed alone.\n"
code_text X2 =
    codes "X2 line N is no edge\n"
    ++ codes "Line N is complete and does not spell an edge. Line 1 is the header, so that\n"
    ++ codes "line 2 has edge 1. Usually the line is empty, a comment, or has a second blank\n"
    ++ codes "or a carriage return, there is a time or no driver before the wire, or the\n"
    ++ codes "driver does not have that wire, as in `1 bg3-`. Write the driver, a blank, the\n"
    ++ codes "wire, and `-` or `+`, such as `2 br-`; a line `@N` is for `order` alone, and has\n"
    ++ codes "the number N without leading zeros.\n"
code_text X3 =
    codes "X3 line N is over 64 bytes\n"
    ++ codes "Line N has more than 64 bytes before its line feed. Usually the file is not a\n"
    ++ codes "trace, or its lines end with carriage returns alone: name the trace, or turn the\n"
    ++ codes "carriage returns into line feeds.\n"
code_text X4 =
    codes "X4 the trace is cut off\n"
    ++ codes "The input ends within a line: the last line has no line feed. Usually the\n"
    ++ codes "program that writes the trace was stopped, or does not end its last line. Let it\n"
    ++ codes "flush and end each line, or add the line feed, for example with\n"
    ++ codes "`echo >> trace.vme`.\n"
code_text X5 =
    codes "X5 the trace cannot be read\n"
    ++ codes "A read of the trace failed, or the input was not at its end after 16,777,216\n"
    ++ codes "reads. Usually the trace is a folder, or a bench writes more than 16,777,215\n"
    ++ codes "lines one by one. Name the file in the folder, write several lines at once, or\n"
    ++ codes "take the library.\n"
code_text X6 =
    codes "X6 no memory\n"
    ++ codes "Memory ran out while the trace was read. Usually a limit of memory, such as\n"
    ++ codes "`ulimit -v`, is too low: raise it.\n"
code_text X8 =
    codes "X8 the output cannot be written\n"
    ++ codes "Standard output fails, or nobody reads it any more. Usually the disk is full:\n"
    ++ codes "free space, or write elsewhere. If a program such as `head` stopped reading,\n"
    ++ codes "nothing is wrong: what it read is right.\n"
code_text X9 =
    codes "X9 the trace has M edges\n"
    ++ codes "The trace has no fault, but fewer edges than `--edge`, `--other`, `--after` or\n"
    ++ codes "the first edge of `show` asks for. Usually the number belongs to another trace.\n"
    ++ codes "Write a number up to M: refused edges count too.\n"
code_text X10 =
    codes "X10 line N is of an earlier moment\n"
    ++ codes "The number of a moment is less than that of the moment before it. Usually the\n"
    ++ codes "files of several monitors were joined one after the other, a counter of clocks\n"
    ++ codes "wrapped, or one file has two runs. Merge the files by moment, take a wider\n"
    ++ codes "counter, and write a file for each run.\n"
code_text X11 =
    codes "X11 edge N races with none\n"
    ++ codes "`races --other N` has no other order to print: edge N is refused, or it does not\n"
    ++ codes "race with an edge before it. Usually N is the earlier edge of the race, the\n"
    ++ codes "number I of a line `N EDGE races I`: ask for the later one. `races --edge N`\n"
    ++ codes "prints what stops the edge.\n"
code_text X12 =
    codes "X12 line N is no pin of this backplane\n"
    ++ codes "Line N is a `pin` line of a slot without a board, or of a chain that an empty\n"
    ++ codes "slot below it does not join. Usually the number is mistyped, or the scenario\n"
    ++ codes "lacks the analyser, which is a board with a `slot` and nothing else. Correct the\n"
    ++ codes "line, or describe the board, and give each empty slot a jumper with all five\n"
    ++ codes "chains.\n"
code_text X13 =
    codes "X13 line N is a wire that has a pin already\n"
    ++ codes "Line N is a `pin` line, and an earlier one is of the same wire. Usually the\n"
    ++ codes "output of a board and the input of the next one are both declared, such as\n"
    ++ codes "`1 BG3OUT` and `2 BG3IN`, or a line is there twice. Declare one pin of each\n"
    ++ codes "wire, and write all of its changes by that name.\n"
code_text X14 =
    codes "X14 line N names a pin that is not probed\n"
    ++ codes "Line N is a `low` line or a change of a pin that has no `pin` line. Usually the\n"
    ++ codes "`pin` line is missing, or it has the name of the other end of the wire, such as\n"
    ++ codes "`1 BG3OUT` for `2 BG3IN`. Write a `pin` line for it above the first moment, and\n"
    ++ codes "spell the pin alike everywhere.\n"
code_text X15 =
    codes "X15 line N changes nothing\n"
    ++ codes "Line N is a fall of what is low already, a rise of what is high already, or a\n"
    ++ codes "second `low` line of the same line or wire. Usually the analyser missed a pulse\n"
    ++ codes "between two of its samples, the `low` line of what was low at the beginning is\n"
    ++ codes "missing, or the file has levels and not changes. Sample more often, write that\n"
    ++ codes "`low` line, or leave out what does not change.\n"
code_text X16 =
    codes "X16 line N is no line of a capture\n"
    ++ codes "Line N is complete and spells no line of a capture, or it stands where it may\n"
    ++ codes "not. Usually it is an edge with a driver, such as `2 br-`, it is empty or a\n"
    ++ codes "comment, or it has an `AS-` that does not say what is shown; or a change has no\n"
    ++ codes "moment above it, or `low` no `running`. Write the `pin` lines, `running` and the\n"
    ++ codes "`low` lines first, and below them the changes, such as `BR3-`, each below its\n"
    ++ codes "moment `@N`.\n"
code_text X17 =
    codes "X17 line N stands before the first moment\n"
    ++ codes "Line N is an edge, and there is no moment above it. Usually the file is a trace,\n"
    ++ codes "which has an order already: `check` and `replay` read it. In moments, write a\n"
    ++ codes "line `@N` before the edges of each clock.\n"

-- the code of that name
abbrev pub code_named : List ℕ → Option Code
code_named words = find (λ c. bytes_eq words (code_name c)) all_codes
