mod StatusLines
