mod ListedKeys
