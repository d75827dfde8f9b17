use Rattle.std.proofs.lemmas.Result.{err_from_is_err_and}
use Rattle.file_read.proofs.ReadRows.{read_refused, read_lent, read_copied}
use Rattle.file_read.proofs.read_tray.Goals as goal

pub returns-in_err-check_file : goal.returns-in_err-check_file
returns-in_err-check_file c =
    let p = err_from_is_err_and c.from_residual.result c.from_residual.ensures.1 in
    rw (p.1, p.2) (read_refused _ _ _ _ _ c.in_err-check_file.ensures)

pub copy_file-requires : goal.copy_file-requires
copy_file-requires c = read_lent _ _ _ _ c.in_ok-check_file.ensures

pub returns : goal.returns
returns c = read_copied _ _ _ _ c.in_ok-check_file.ensures _ _ _ _ c.copy_file.ensures
