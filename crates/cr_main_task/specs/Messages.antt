-- What the program puts on its output, line by line.
use Rattle.std.specs.Prelude.{ℕ, List, [], ◌∷◌, ◌++◌, codes, decimal}
use Rattle.cr_cursor.specs.declared.law.Reason.{Reason}
use Rattle.cr_cursor.specs.declared.law.Reason.TheVariants as reason
use Rattle.cr_main_task.specs.declared.messages.Refusal.{Refusal}
use Rattle.cr_main_task.specs.declared.messages.Refusal.TheVariants as refusal

-- a line that ends with the file's name
abbrev pub name_line : List ℕ → List ℕ → List ℕ
name_line front name = codes "creduce: " ++ front ++ name ++ 10 ∷ []

-- the line of a file's fault: what it is, and its number
abbrev pub reason_line_of : List ℕ → ℕ → List ℕ → ℕ → List ℕ
reason_line_of name line kind number = codes "creduce: " ++ name ++ 58 ∷ (decimal line ++ codes ": " ++ kind ++ decimal number ++ 10 ∷ [])

abbrev pub reason_line : List ℕ → Reason → List ℕ
reason_line name (reason.Token number line) = reason_line_of name line (codes "not in the subset: token ") number
reason_line name (reason.Parse number line) = reason_line_of name line (codes "not in the subset: parse ") number
reason_line name (reason.Name number line) = reason_line_of name line (codes "not in the subset: name ") number
reason_line name (reason.Typing number line) = reason_line_of name line (codes "not in the subset: type ") number
reason_line name (reason.Undefined number line) = reason_line_of name line (codes "not defined: U") number
reason_line name (reason.Left number line) = reason_line_of name line (codes "left the profile: N") number

-- the status for a reason: 4 where the file is not in the subset, 5 where its run is not defined or left the profile
abbrev pub reason_status : Reason → ℕ
reason_status (reason.Undefined number line) = 5
reason_status (reason.Left number line) = 5
reason_status r = 4

-- the line of a refusal, which names this file
abbrev pub refusal_line : List ℕ → Refusal → List ℕ
refusal_line name refusal.NoFile = name_line (codes "no file ") name
refusal_line name (refusal.Against reason) = reason_line name reason
refusal_line name refusal.SaysNo = name_line (codes "the test says no to ") name
refusal_line name refusal.TestFailed = name_line (codes "the test failed on ") name
refusal_line name refusal.FileFault = name_line (codes "file fault: ") name

-- and its status
abbrev pub refusal_status : Refusal → ℕ
refusal_status refusal.NoFile = 3
refusal_status (refusal.Against reason) = reason_status reason
refusal_status refusal.SaysNo = 6
refusal_status refusal.TestFailed = 8
refusal_status refusal.FileFault = 9

-- the names of the files beside the file
abbrev pub copy_name : List ℕ → List ℕ
copy_name name = name ++ codes ".orig"

abbrev pub log_name : List ℕ → List ℕ
log_name name = name ++ codes ".log"
