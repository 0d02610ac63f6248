mod Grouping
